-- How an audit ends, by how its parts do.
use Rattle.std.proofs.Common.{◌≡◌, ◌∙◌, inr, refl, subst, Option, Some}
use Rattle.lus_program.specs.Programs.{Program}
use Rattle.lus_devices.specs.Devices.{Bytes}
use Rattle.lus_devices.specs.Folders.{Holds, Known, WithFile}
use Rattle.lus_cli.proofs.ProgramLemmas.{file_then}
use Rattle.lus_hosting.specs.LawfulSpecs.Errors.{BlamesIf}
use Rattle.lus_hosting.specs.LawfulSpecs.Findings.{AreNone}
use Rattle.lus_hosting.specs.LawfulSpecs.declared.error.AuditError.{AuditError}
use Rattle.lus_hosting.specs.LawfulSpecs.declared.error.AuditError.TheVariants as errors
use Rattle.lus_audit.specs.Ends.{AuditFails, IsOfFile, audit_fault}

-- what holds of the bytes that an opened file has left holds of the file's
pub file_so : (P : Option Bytes → Type 0) (known : Known) (left ahead : Option Bytes) → Holds known left → ahead ≡ left → P ahead
    → WithFile known (λ bytes. P (Some bytes))
file_so P known left ahead holds same so = file_then known (λ bytes. left ≡ Some bytes) (λ bytes. P (Some bytes)) (λ bytes is. subst P (same ∙ is) so) holds

-- a fault of an audit is one of the journals
pub audit_fails : (read_fails : Known → Type 0) (file journal : Known) (e : AuditError) (p : Program) (left ahead : Option Bytes) → IsOfFile file p
    → Holds journal left → ahead ≡ left → BlamesIf (AreNone p ahead) e → AuditFails read_fails file journal (audit_fault e)
audit_fails read_fails file journal (errors.Line n) p left ahead accepted holds same blames =
    (p, accepted, file_so (AreNone p) journal left ahead holds same (blames n refl))
audit_fails read_fails file journal errors.Read p left ahead accepted holds same blames = inr (p, accepted)
audit_fails read_fails file journal errors.Memory p left ahead accepted holds same blames = tt
