-- What was found is reported, with the reasons behind it.
use Rattle.std.proofs.Common.{◌∙◌, ap, ◌++◌}
use Rattle.std.proofs.lemmas.Result.{IfErr-weaker, IfOk-weaker}
use Rattle.std.specs.Arc.{arc_value}
use Rattle.lus_cli.specs.CodeSpecs.Codes.{program_of}
use Rattle.lus_audit.specs.Ends.{shown}
use Rattle.lus_audit.proofs.ReasonLaws.{explained}
use Rattle.lus_audit.proofs.shell.explain.Goals as goal

pub returns-in-Ok-clause-ok : goal.returns-in-Ok-clause-ok
returns-in-Ok-clause-ok g c =
    let p = program_of (arc_value c.args.program.now) in
    let report = c.in-Ok.report in
    IfOk-weaker c.with_reasons.result _ _
    (λ r told.
    explained p report.wrong (g.S.Source.left c.args.source.now) report.text.items _ c.audit.new.observers.text.items r.text.items r.wrong c.new-text.ensures.items
    told.0 c.in-Ok.ensures.sound c.in-Ok.ensures.complete (told.1 ∙ ap (λ t. shown report.text.items ++ t) c.deref.ensures.value))
    c.with_reasons.ensures.ok

pub returns-in-Ok-clause-blames : goal.returns-in-Ok-clause-blames
returns-in-Ok-clause-blames g c = IfErr-weaker c.with_reasons.result _ _ (λ e outside n is. absurd (outside n is)) c.with_reasons.ensures.memory
