-- How an audit ends: what was found of the journals, or which fault ended it.
use Rattle.std.specs.Prelude.{◌≡◌, ◌⊎◌, ◌++◌, ℕ, Bool, true, false, [], ◌∷◌, Option, Some, Result, codes, is_none, ⊤}
use Rattle.lus_program.specs.Programs.{Program}
use Rattle.lus_devices.specs.Devices.{Bytes}
use Rattle.lus_devices.specs.Folders.{Known, WithFile}
use Rattle.lus_cli.specs.HostSpecs.Sources.{ProgramRefused}
use Rattle.lus_cli.specs.MachineSpecs.Acceptance.{Accepted}
use Rattle.lus_cli.specs.Changes.{Change}
use Rattle.lus_cli.specs.CommandLine.{Text}
use Rattle.lus_cli.specs.Ends.{IsLost, SaysEnds}
use Rattle.lus_cli.specs.declared.fault.Fault.{Fault}
use Rattle.lus_cli.specs.declared.fault.Fault.TheVariants as faults
use Rattle.lus_hosting.specs.LawfulSpecs.Audits.{HasAudited}
use Rattle.lus_hosting.specs.LawfulSpecs.Findings.{AreNone, FindsAll}
use Rattle.lus_hosting.specs.LawfulSpecs.declared.error.AuditError.{AuditError}
use Rattle.lus_hosting.specs.LawfulSpecs.declared.error.AuditError.TheVariants as errors
use Rattle.lus_audit.specs.CommandLine.{Asked}
use Rattle.lus_audit.specs.Reasons.{AreReasons}

-- the program of the file is accepted, where its bytes are known
abbrev pub IsOfFile : Known → Program → Type 0
IsOfFile file p = WithFile file (λ text. Accepted text p)

-- what is found, which says where it is of no journal
abbrev pub shown : Text → Text
shown [] = codes "no journal\n"
shown (b ∷ found) = b ∷ found

-- What is found of bytes is so, and of journals that can be read back what is to be found is found. It is reported, with the reasons of
-- the lawful journals' refusals behind it where they are asked.
pub record IsReported (p : Program) (is_why is_lawful : Bool) (left : Option Bytes) (report : Text) : Type 0 where
  pub found : Text
  pub reasons : Text
  pub wrong : Option ℕ
  pub status : is_lawful ≡ is_none wrong
  pub sound : HasAudited p (AreReasons is_why p reasons) wrong left found
  pub complete : FindsAll p is_lawful left found
  pub reported : report ≡ shown found ++ reasons

-- the journals of a file are audited by the program of another
abbrev pub IsAudited : Known → Known → Bool → Bool → Text → Type 0
IsAudited program journal is_why is_lawful report =
    (p : Program) × IsOfFile program p × WithFile journal (λ bytes. IsReported p is_why is_lawful (Some bytes) report)

-- why nothing is found: the program's file is lost or it is refused; or it is accepted, and the journals' file is lost, or has a line
-- that is none of a journal, and so no journals that can be read back; or out of memory
abbrev pub AuditFails : (Known → Type 0) → Known → Known → Fault → Type 0
AuditFails read_fails program journal faults.File = IsLost read_fails program ⊎ ((p : Program) × IsOfFile program p)
AuditFails read_fails program journal (faults.Program e) = WithFile program (λ text. ProgramRefused text e)
AuditFails read_fails program journal (faults.Journal n) =
    (p : Program) × IsOfFile program p × WithFile journal (λ bytes. AreNone p (Some bytes))
AuditFails read_fails program journal (faults.Signal n) = ⊥
AuditFails read_fails program journal faults.Memory = ⊤
AuditFails read_fails program journal (faults.Scripts e) = ⊥
AuditFails read_fails program journal faults.Words = ⊥
AuditFails read_fails program journal faults.Output = ⊥
AuditFails read_fails program journal faults.Start = ⊥

abbrev pub audit_fault : AuditError → Fault
audit_fault (errors.Line n) = faults.Journal n
audit_fault errors.Read = faults.File
audit_fault errors.Memory = faults.Memory

-- what is reported is written; where nothing is found, nothing is
abbrev pub TaskEnds : (Known → Type 0) → (Text → Known) → Asked → Result Bool Fault → Change → Type 0
TaskEnds read_fails known asked =
    SaysEnds (λ is_lawful report. IsAudited (known asked.program) (known asked.journal) asked.is_why is_lawful report)
    (AuditFails read_fails (known asked.program) (known asked.journal))

-- 0 where each journal is lawful
abbrev pub audit_status : Bool → ℕ
audit_status true = 0
audit_status false = 2
