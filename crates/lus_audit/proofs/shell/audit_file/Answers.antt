-- What was found of the bytes that were read is found of the files.
use Rattle.std.proofs.Common.{◌≡◌, ap, inr, subst, sym}
use Rattle.std.specs.Prelude.{is_none}
use Rattle.std.specs.Arc.{arc_value}
use Rattle.lus_cli.specs.CodeSpecs.Codes.{program_of}
use Rattle.lus_cli.specs.Ends.{ReadFails}
use Rattle.lus_audit.specs.Ends.{AuditFails, IsOfFile, IsReported}
use Rattle.lus_audit.proofs.EndLemmas.{audit_fails, file_so}
use Rattle.lus_audit.proofs.shell.audit_file.Goals as goal

pub returns-in_default-open-clause-fault : goal.returns-in_default-open-clause-fault
returns-in_default-open-clause-fault g c = inr (program_of c.in_ok-program.program, c.in_ok-program.ensures.accepted)

pub returns-clause-fault : goal.returns-clause-fault
returns-clause-fault g c =
    let read_fails = ReadFails g.row.D-File.Denot g.D.File.Source.left g.D.File.Source.failures in
    let file = g.D.Folder.known c.args.folder.now c.args.task.program.now in
    let journal = g.D.Folder.known c.args.folder.now c.args.task.journal.now in
    let same : program_of c.in_ok-program.program ≡ program_of (arc_value c.in-Ok.program) = ap program_of (sym c.in-Ok.ensures.ok) in
    let accepted = subst (IsOfFile file) same c.in_ok-program.ensures.accepted in
    subst (AuditFails read_fails file journal) (sym c.fault_of.ensures)
    (audit_fails read_fails file journal c.in-Err.error (program_of (arc_value c.in-Ok.program)) _ _ accepted c.in-Ok-open.ensures.opened c.new-2.ensures
    c.in-Err.ensures.blames)

pub returns-in-Ok-audit_journals-clause-audited : goal.returns-in-Ok-audit_journals-clause-audited
returns-in-Ok-audit_journals-clause-audited g c =
    let file = g.D.Folder.known c.args.folder.now c.args.task.program.now in
    let journal = g.D.Folder.known c.args.folder.now c.args.task.journal.now in
    let p = program_of (arc_value c.in-Ok.program) in
    let same : program_of c.in_ok-program.program ≡ p = ap program_of (sym c.in-Ok.ensures.ok) in
    let report = c.in-Ok-audit_journals.report in (
      p,
      subst (IsOfFile file) same c.in_ok-program.ensures.accepted,
      file_so (λ o. IsReported p c.args.task.is_why (is_none report.wrong) o report.text.items) journal _ _ c.in-Ok-open.ensures.opened c.new-2.ensures
          c.in-Ok-audit_journals.ensures.ok,
    )
