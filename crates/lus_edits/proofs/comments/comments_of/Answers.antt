use Rattle.std.proofs.Common.{rules}
use Rattle.lus_edits.proofs.Notes.{none_left, one_more}
use Rattle.lus_edits.proofs.comments.comments_of.Goals as goal

pub loop-rest-preserved : goal.loop-rest-preserved
loop-rest-preserved c later h =
    one_more _ _ _ _ _ _ _ later c.in-Some.ensures c.split_at.ensures.front c.split_at.ensures.back c.in_ok-push_said.ensures c.loop-rest.invariant h

pub returns : goal.returns
returns c = none_left _ _ _ (search rules) c.loop-rest.invariant
