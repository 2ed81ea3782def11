-- A program that was read up to one byte more than there may be is the file's.
use Rattle.std.proofs.Common.{◌≡◌, ◌≢◌, ◌∙◌, ◌+◌, sym, ℕ, take, arith, Some, None}
use Rattle.lus_syntax.specs.Limits.{most_bytes}
use Rattle.lus_syntax.specs.declared.refusal.Refusal.{Refusal}
use Rattle.lus_syntax.specs.declared.refusal.RefusalNumber.{RefusalNumber}
use Rattle.lus_syntax.specs.declared.refusal.RefusalNumber.TheVariants as numbers
use Rattle.lus_program.specs.Programs.{Program}
use Rattle.lus_devices.specs.Devices.{Bytes}
use Rattle.lus_devices.specs.Folders.{Known, WithFile}
use Rattle.lus_host.specs.MachineSpecs.Acceptance.{Accepted}
use Rattle.lus_host.specs.Sources.{ProgramRefused}
use Rattle.lus_host.proofs.Sources.{accepted_left, refused_left}
use Rattle.lus_cli.specs.Ends.{IsLost, IsReadingFault}
use Rattle.lus_cli.specs.Faults.{program_fault}
use Rattle.lus_cli.specs.Programs.{IsCompileFault, IsProgramFault}
use Rattle.lus_cli.specs.declared.fault.Fault.{Fault}
use Rattle.lus_cli.specs.declared.fault.Fault.TheVariants as faults

-- a refusal is a fault by its number
pub refusal_fault : (bytes : Bytes) (r : Refusal) (n : RefusalNumber) → r.number ≡ n → (f : Fault) → f ≡ program_fault n r
    → (r.number ≢ numbers.Memory → ProgramRefused bytes r) → IsCompileFault bytes f
refusal_fault bytes r numbers.Memory is f same refused = rw same tt
refusal_fault bytes r n is f same refused = rw same (refused (λ memory. let never : n ≡ numbers.Memory = sym is ∙ memory in cc))

pub file_then : (known : Known) (P Q : Bytes → Type 0) → ((bytes : Bytes) → P bytes → Q bytes) → WithFile known P → WithFile known Q
file_then None P Q f p = tt
file_then (Some None) P Q f p = absurd p
file_then (Some (Some bytes)) P Q f p = f bytes p

module _ (known : Known) where
  module _ (m n : ℕ) (is : m ≡ most_bytes) (next : n ≡ m + 1) (bytes : Bytes) (read : WithFile known (λ left. bytes ≡ take n left)) where
    pub accepted : (p : Program) → Accepted bytes p → WithFile known (λ text. Accepted text p)
    accepted p a = file_then known (λ left. bytes ≡ take n left) (λ text. Accepted text p)
        (λ left same. accepted_left m n next bytes left p same (omega (arith, a.size)) a) read

    pub compile_fault : (read_fails : Known → Type 0) (f : Fault) → IsCompileFault bytes f → IsProgramFault read_fails known f
    compile_fault read_fails (faults.Program e) refused = file_then known (λ left. bytes ≡ take n left) (λ text. ProgramRefused text e)
        (λ left same. refused_left m n is next bytes left e same refused) read
    compile_fault read_fails faults.Memory memory = tt
    compile_fault read_fails (faults.Journal k) never = absurd never
    compile_fault read_fails (faults.Signal k) never = absurd never
    compile_fault read_fails (faults.Scripts e) never = absurd never
    compile_fault read_fails faults.Words never = absurd never
    compile_fault read_fails faults.File never = absurd never
    compile_fault read_fails faults.Output never = absurd never
    compile_fault read_fails faults.Start never = absurd never

  -- a fault of reading the file
  pub program_unread : (read_fails : Known → Type 0) (f : Fault) → IsReadingFault (IsLost read_fails known) f → IsProgramFault read_fails known f
  program_unread read_fails faults.File lost = lost
  program_unread read_fails faults.Memory memory = tt
  program_unread read_fails (faults.Program e) never = absurd never
  program_unread read_fails (faults.Journal k) never = absurd never
  program_unread read_fails (faults.Signal k) never = absurd never
  program_unread read_fails (faults.Scripts e) never = absurd never
  program_unread read_fails faults.Words never = absurd never
  program_unread read_fails faults.Output never = absurd never
  program_unread read_fails faults.Start never = absurd never
