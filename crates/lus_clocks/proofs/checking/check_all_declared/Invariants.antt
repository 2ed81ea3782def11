-- The rest is lawful where the whole is.
use Rattle.std.proofs.Common.{◌≡◌, drop}
use Rattle.lus_clocks.specs.Fitting.{all_declared}
use Rattle.lus_clocks.proofs.checking.check_all_declared.Given as goal

abbrev pub invariant-loop-node : goal.invariant-loop-node
invariant-loop-node l = all_declared (drop l.node-index l.nodes) ≡ all_declared l.nodes
