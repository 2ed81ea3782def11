-- By whether reasons are asked.
use Rattle.std.proofs.Common.{subst, sym}
use Rattle.std.proofs.lemmas.Result.{IfOk-weaker}
use Rattle.std.specs.Arc.{arc_value}
use Rattle.lus_cli.specs.CodeSpecs.Codes.{program_of}
use Rattle.lus_cli.proofs.ProgramLemmas.{file_then}
use Rattle.lus_devices.specs.Folders.{WithFile}
use Rattle.lus_audit.specs.Logs.{IsLogReported}
use Rattle.lus_audit.proofs.LogEnds.{reported_plain}
use Rattle.lus_audit.proofs.logs.audit_node.Goals as goal

pub returns-then-is_why-clause-audited : goal.returns-then-is_why-clause-audited
returns-then-is_why-clause-audited g c =
    let p = program_of (arc_value c.args.program.now) in
    let log = g.D.Folder.known c.args.folder.now c.args.log.now in
    IfOk-weaker c.explain.result _ _
    (λ r found. subst (λ b. WithFile log (IsLogReported p c.args.node.0 b r.is_lawful r.text.items)) (sym c.if-is_why.true) found) c.explain.ensures.audited

pub returns-else-is_why-clause-audited : goal.returns-else-is_why-clause-audited
returns-else-is_why-clause-audited g c =
    let p = program_of (arc_value c.args.program.now) in
    let f = c.args.node.0 in
    let log = g.D.Folder.known c.args.folder.now c.args.log.now in
    IfOk-weaker c.audit_once.result _ _
    (λ r found.
    subst (λ b. WithFile log (IsLogReported p f b r.is_lawful r.text.items)) (sym c.if-is_why.false)
    (file_then log _ _ (λ bytes is. reported_plain p f _ r.is_lawful r.text.items bytes is) found))
    c.audit_once.ensures.audited
