-- The claim fails in the run.
use Rattle.lus_test.specs.Trials.{IsFailure}
use Rattle.lus_test.proofs.shrinking.drop_together.Given as goal

abbrev pub invariant-loop-part : goal.invariant-loop-part
invariant-loop-part l = IsFailure l.subject l.failure
