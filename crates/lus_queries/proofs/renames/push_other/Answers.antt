-- The comma stands before the change.
use Rattle.lus_queries.proofs.EditLaws.{pushed_on}
use Rattle.lus_queries.proofs.renames.push_other.Goals as goal

pub returns : goal.returns
returns c = pushed_on _ _ _ c.in_ok-push_part.ensures c.in_ok-push_edit.ensures
