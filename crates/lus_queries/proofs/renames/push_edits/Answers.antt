-- The first change has no comma before it.
use Rattle.lus_queries.proofs.EditLaws.{no_edits, some_edits}
use Rattle.lus_queries.proofs.renames.push_edits.Goals as goal

pub returns-in_default : goal.returns-in_default
returns-in_default c = no_edits _ _ c.in_default.ensures.cases

pub returns : goal.returns
returns c = some_edits _ _ _ _ _ _ c.in-Some.ensures.cases.0 c.in_ok-push_edit.ensures c.in_ok-push_others.ensures
