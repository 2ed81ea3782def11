-- Each row so far passes.
use Rattle.std.proofs.Common.{◌≡◌, drop, map}
use Rattle.csv.specs.Records.{fields_of}
use Rattle.lus_test.specs.Findings.{finding_from, told_by}
use Rattle.lus_test.proofs.finding.find.Given as goal

abbrev pub invariant-loop-row : goal.invariant-loop-row
invariant-loop-row l =
    finding_from 0 (told_by l.outputs) l.places (map fields_of l.rows) l.replies
    ≡ finding_from l.row (told_by l.outputs) l.places (map fields_of l.rows) (drop l.row l.replies)
