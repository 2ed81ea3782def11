-- Something is said of a text that is refused, and nothing of one that is accepted.
use Rattle.std.proofs.Common.{refl, inr, is_some, subst}
use Rattle.lus_syntax.specs.declared.refusal.Refusal.{Refusal}
use Rattle.lus_reports.specs.Diagnoses.{IsAccepted, IsExplained, IsRefused}
use Rattle.lus_c.specs.Explained.{is_accepted, is_refused}
use Rattle.lus_c.proofs.explaining.explain_file.Goals as goal

pub returns-in-Ok-Some-clause-told : goal.returns-in-Ok-Some-clause-told
returns-in-Ok-Some-clause-told c =
    let refused : (r : Refusal) × IsRefused c.args.text.now r =
    subst (λ o. IsExplained c.args.text.now (is_some o)) c.in-Ok-Some.field-0-is c.in-Ok-Some.ensures in
    inr (is_refused refused.0 refused.1 c.as_bytes.result.now c.write_text.ensures.told)

pub returns-in-Ok-None-clause-told : goal.returns-in-Ok-None-clause-told
returns-in-Ok-None-clause-told c =
    let accepted : IsAccepted c.args.text.now = subst (λ o. IsExplained c.args.text.now (is_some o)) c.in-Ok-None.field-0-is c.in-Ok-None.ensures in
    inr (is_accepted accepted refl)
