-- A note has no reason.
use Rattle.lus_audit.proofs.LogLaws.{explained_note}
use Rattle.lus_audit.proofs.log_reasons.ExplanationsLogObserver.pass.Goals as goal

pub returns : goal.returns
returns c = λ p f lines t has. explained_note p f lines c.args.self.now has t c.saturating_add-self.result
