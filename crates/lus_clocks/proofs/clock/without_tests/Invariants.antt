-- The rest without what is still to leave out is the clock without all.
use Rattle.std.proofs.Common.{◌≡◌, ◌-◌}
use Rattle.lus_program.specs.View.{node_of}
use Rattle.lus_clocks.specs.Fitting.{without_tests as without_newest}
use Rattle.lus_clocks.specs.View.{clock_in}
use Rattle.lus_clocks.proofs.clock.without_tests.Given as goal

abbrev pub invariant-loop-test : goal.invariant-loop-test
invariant-loop-test l = without_newest (node_of l.node) (l.count - l._test) (clock_in l.rest) ≡ without_newest (node_of l.node) l.count (clock_in l.fn.clock)
