-- The rest is on clocks where the whole is.
use Rattle.std.proofs.Common.{◌≡◌, drop}
use Rattle.lus_program.specs.View.{program_seen}
use Rattle.lus_clocks.specs.Fitting.{all_fit}
use Rattle.lus_clocks.proofs.checking.check_all_equations.Given as goal

abbrev pub invariant-loop-node : goal.invariant-loop-node
invariant-loop-node l = all_fit (program_seen l.program) (drop l.node-index l.nodes) ≡ all_fit (program_seen l.program) l.nodes
