-- The claim fails in no reply so far.
use Rattle.std.proofs.Common.{◌≡◌, drop}
use Rattle.lus_test.specs.Claims.{broken_from}
use Rattle.lus_test.specs.Findings.{told_by}
use Rattle.lus_test.proofs.trial.broken_at.Given as goal

abbrev pub invariant-loop-row : goal.invariant-loop-row
invariant-loop-row l =
    broken_from 0 (told_by l.outputs) l.claim l.replies ≡ broken_from l.row (told_by l.outputs) l.claim (drop l.row l.replies)
