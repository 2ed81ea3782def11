-- The claim fails in the run.
use Rattle.lus_test.specs.Trials.{IsFailure}
use Rattle.lus_test.proofs.shrinking.simplify_numbers.Given as goal

abbrev pub invariant-loop-row : goal.invariant-loop-row
invariant-loop-row l = IsFailure l.subject l.failure

abbrev pub invariant-loop-column : goal.invariant-loop-column
invariant-loop-column l = IsFailure l.subject l.failure
