-- What was found of the bytes that were read is found of the file.
use Rattle.std.proofs.Common.{subst, sym}
use Rattle.std.specs.Arc.{arc_value}
use Rattle.lus_cli.specs.CodeSpecs.Codes.{program_of}
use Rattle.lus_hosting.specs.Audits.{FindsInLog, HasAuditedLog, Observes}
use Rattle.lus_audit.specs.Logs.{LogIsLost}
use Rattle.lus_audit.proofs.EndLemmas.{file_so}
use Rattle.lus_audit.proofs.LogEnds.{log_lost}
use Rattle.lus_audit.proofs.logs.audit_once.Goals as goal

pub returns-clause-fault : goal.returns-clause-fault
returns-clause-fault g c =
    let p = program_of (arc_value c.args.program.now) in
    let log = g.D.Folder.known c.args.folder.now c.args.log.now in
    subst (LogIsLost p log) (sym c.fault_of.ensures) (log_lost p log c.in-Err.error _ _ c.in-Ok.ensures.opened c.new-source.ensures c.in-Err.ensures.blames)

pub returns-in-Ok-audit_log-clause-audited : goal.returns-in-Ok-audit_log-clause-audited
returns-in-Ok-audit_log-clause-audited g c =
    let p = program_of (arc_value c.args.program.now) in
    let f = c.args.node.0 in
    let report = c.in-Ok-audit_log.report in
    let Seen = Observes (g.O.LogObserver.seen c.args.observer.now p f) (g.O.LogObserver.seen c.audit_log.new.observer p f) in
    file_so (λ o. HasAuditedLog p f Seen report.is_lawful o report.text.items × FindsInLog p f report.is_lawful o report.text.items)
    (g.D.Folder.known c.args.folder.now c.args.log.now) _ _ c.in-Ok.ensures.opened c.new-source.ensures
    (c.in-Ok-audit_log.ensures.sound, c.in-Ok-audit_log.ensures.complete)
