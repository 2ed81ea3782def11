-- The claim fails in the run.
use Rattle.lus_test.specs.Trials.{IsFailure}
use Rattle.lus_test.proofs.shrinking.simplify_number.Given as goal

abbrev pub invariant-loop-half : goal.invariant-loop-half
invariant-loop-half l = IsFailure l.subject l.failure
