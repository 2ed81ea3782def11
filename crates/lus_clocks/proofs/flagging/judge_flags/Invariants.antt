-- Each node before this one has flags.
use Rattle.std.proofs.Common.{map, take}
use Rattle.lus_values.specs.Lists.{Each}
use Rattle.lus_program.specs.Programs.{Program}
use Rattle.lus_program.specs.View.{node_of}
use Rattle.lus_clocks.specs.Raising.{HasFlags}
use Rattle.lus_clocks.proofs.flagging.judge_flags.Given as goal

abbrev pub invariant-loop-node : goal.invariant-loop-node
invariant-loop-node l = (p : Program) → Each (HasFlags p) (map node_of (take l.node-index l.program.nodes.items))
