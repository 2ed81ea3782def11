-- The claim fails in the run.
use Rattle.lus_test.specs.Trials.{IsFailure}
use Rattle.lus_test.proofs.shrinking.shrink.Given as goal

abbrev pub invariant-loop-round : goal.invariant-loop-round
invariant-loop-round l = IsFailure l.subject l.failure
