-- The rest is on the clock where the whole is.
use Rattle.std.proofs.Common.{◌≡◌, drop}
use Rattle.lus_program.specs.View.{node_of}
use Rattle.lus_clocks.specs.Fitting.{lefts_fit}
use Rattle.lus_clocks.specs.View.{clock_in}
use Rattle.lus_clocks.proofs.equation.lefts_are_on.Given as goal

abbrev pub invariant-loop-target : goal.invariant-loop-target
invariant-loop-target l = lefts_fit (node_of l.node) (clock_in l.clock) (drop l.target-index l.targets) ≡ lefts_fit (node_of l.node) (clock_in l.clock) l.targets
