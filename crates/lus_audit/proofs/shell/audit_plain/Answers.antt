-- What was found is reported as it is shown.
use Rattle.std.proofs.lemmas.Result.{IfErr-weaker, IfOk-weaker}
use Rattle.std.specs.Arc.{arc_value}
use Rattle.lus_cli.specs.CodeSpecs.Codes.{program_of}
use Rattle.lus_audit.proofs.ReasonLaws.{plain}
use Rattle.lus_audit.proofs.shell.audit_plain.Goals as goal

pub returns-in-Ok-clause-ok : goal.returns-in-Ok-clause-ok
returns-in-Ok-clause-ok g c =
    let p = program_of (arc_value c.args.program.now) in
    let report = c.in-Ok.report in
    IfOk-weaker c.shown.result _ _
    (λ r told. plain p report.wrong (g.S.Source.left c.args.source.now) report.text.items _ r.text.items r.wrong told.0 c.in-Ok.ensures.sound c.in-Ok.ensures.complete
    told.1)
    c.shown.ensures.ok

pub returns-in-Ok-clause-blames : goal.returns-in-Ok-clause-blames
returns-in-Ok-clause-blames g c = IfErr-weaker c.shown.result _ _ (λ e outside n is. absurd (outside n is)) c.shown.ensures.memory
