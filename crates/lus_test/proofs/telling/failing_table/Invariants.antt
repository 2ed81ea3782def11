-- The records so far come before those of the rows that are left.
use Rattle.std.proofs.Common.{◌≡◌, ◌++◌, drop, map}
use Rattle.csv.specs.Records.{fields_of}
use Rattle.lus_test.specs.Failing.{failing_rows, failing_table}
use Rattle.lus_test.proofs.telling.failing_table.Given as goal

abbrev pub invariant-loop-row : goal.invariant-loop-row
invariant-loop-row l =
    l.text.items ++ failing_rows l.last l.row (map fields_of (drop l.row l.rows))
    ≡ failing_table (fields_of l.names) l.claim l.last (map fields_of l.rows)
