-- Each row so far has a record.
use Rattle.std.proofs.Common.{◌≡◌, length}
use Rattle.lus_test.proofs.trial.Subject.records_of.Given as goal

abbrev pub invariant-loop-row : goal.invariant-loop-row
invariant-loop-row l = length l.records.items ≡ l.row-index
