-- The entry's reason was told.
use Rattle.lus_audit.proofs.ReasonLaws.{told_more}
use Rattle.lus_audit.proofs.reasons.ExplainedObserver.see.Goals as goal

pub returns : goal.returns
returns c = λ h told. told_more _ _ _ _ h _ _ _ _ c.source-source.ensures.same c.names-names.ensures c.in_ok-note.ensures told
