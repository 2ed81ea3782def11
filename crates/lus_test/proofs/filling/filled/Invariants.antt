-- The records so far come before those of the rows that are left.
use Rattle.std.proofs.Common.{◌≡◌, ◌++◌, drop, map}
use Rattle.csv.specs.Records.{fields_of}
use Rattle.lus_records.specs.Outputs.{record_text}
use Rattle.lus_test.specs.Filling.{rows_from}
use Rattle.lus_test.specs.Findings.{told_by}
use Rattle.lus_test.proofs.filling.filled.Given as goal

abbrev pub invariant-loop-row : goal.invariant-loop-row
invariant-loop-row l =
    l.text.items ++ rows_from l.row (told_by l.outputs) l.places (map fields_of l.rows) (drop l.row l.replies)
    ≡ record_text (fields_of l.head) ++ rows_from 0 (told_by l.outputs) l.places (map fields_of l.rows) l.replies
