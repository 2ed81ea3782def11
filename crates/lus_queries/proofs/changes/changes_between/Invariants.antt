-- The changes so far make what was met.
use Rattle.std.proofs.Common.{length}
use denote.Text.{Utf8}
use denote.Shadow.{shadow}
use Rattle.lus_queries.proofs.ChangeLaws.{IsMade}
use Rattle.lus_queries.proofs.changes.changes_between.Given as goal

abbrev pub invariant-loop-part : goal.invariant-loop-part
invariant-loop-part l =
    shadow (Utf8 l.rest) × shadow (Utf8 l.made) × IsMade l.old l.new l.changes.items l.byte l.from l.rest l.made

abbrev pub decreases-loop-part : goal.decreases-loop-part
decreases-loop-part l = length l.rest
