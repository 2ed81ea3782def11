-- By whether reasons are asked.
use Rattle.std.proofs.Common.{subst, sym}
use Rattle.std.proofs.lemmas.Result.{IfOk-weaker}
use Rattle.std.specs.Prelude.{is_none}
use Rattle.std.specs.Arc.{arc_value}
use Rattle.lus_cli.specs.CodeSpecs.Codes.{program_of}
use Rattle.lus_audit.specs.Ends.{IsReported}
use Rattle.lus_audit.proofs.shell.audit_journals.Goals as goal

pub returns-else-is_why-clause-ok : goal.returns-else-is_why-clause-ok
returns-else-is_why-clause-ok g c =
    let p = program_of (arc_value c.args.program.now) in
    let left = g.S.Source.left c.args.source.now in
    IfOk-weaker c.audit_plain.result _ _
    (λ r found. subst (λ b. IsReported p b (is_none r.wrong) left r.text.items) (sym c.if-is_why.false) found) c.audit_plain.ensures.ok
