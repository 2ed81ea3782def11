-- The entry's reason stands behind those before it.
use Rattle.std.proofs.Common.{string_bytes, subst}
use Rattle.std.proofs.lemmas.Result.{on_ok_weaker}
use Rattle.lus_program.specs.View.{program_seen}
use Rattle.lus_windows.specs.declared.reasons.Reasons.{Reasons}
use Rattle.lus_windows.specs.Reasons.{ExplainsNext}
use Rattle.lus_windows.specs.Windows.{entry_by}
use Rattle.lus_windows.proofs.Noted.{noted}
use Rattle.lus_windows.proofs.reasons.Reasons.note.Goals as goal

pub returns : goal.returns
returns c =
    let p = program_seen c.args.program.now in
    let names = c.args.names.now in
    let old = c.args.self.now in
    let new : Reasons = record { explainer = c.explain.new.self; line = c.saturating_add-self.result; text = c.explain.new.text } in
    let r = c.args.request.now in
    let a = c.args.reply.now in
    let next = c.saturating_add-self.ensures in
    on_ok_weaker c.explain.result
    (λ explain f instance first h n. noted p f names instance first h old new (entry_by n r a) next
    (λ k. subst (λ b. ExplainsNext p f names instance b h (entry_by n r a) (string_bytes old.text) (string_bytes new.text) new.explainer) next (explain f instance h n k)))
    c.explain.ensures
