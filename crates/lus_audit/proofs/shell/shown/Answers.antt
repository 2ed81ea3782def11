-- By whether a journal was found.
use Rattle.std.proofs.Common.{◌∙◌, ◌==◌, ap, refl}
use Rattle.lus_audit.proofs.ReasonLaws.{shown_none, shown_some}
use Rattle.lus_audit.proofs.shell.shown.Goals as goal

pub returns-then-not-is_empty-clause-ok : goal.returns-then-not-is_empty-clause-ok
returns-then-not-is_empty-clause-ok c =
    let text = c.args.report.text in
    (refl, shown_some text.items _ (c.is_empty.ensures ∙ ap (λ n. n == 0) text.ok.0) c.if-not-is_empty.true)

pub returns-in-Ok-clause-ok : goal.returns-in-Ok-clause-ok
returns-in-Ok-clause-ok c =
    let text = c.args.report.text in
    (refl, shown_none text.items _ _ (c.is_empty.ensures ∙ ap (λ n. n == 0) text.ok.0) c.if-not-is_empty.false c.in-Ok.ensures.items)
