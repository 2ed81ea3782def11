-- The claim held in each run so far.
use Rattle.lus_test.specs.Trials.{HaveHeld}
use Rattle.lus_test.proofs.failing.first_failing.Given as goal

abbrev pub invariant-loop-run : goal.invariant-loop-run
invariant-loop-run g l = HaveHeld l.subject l.run l.steps
