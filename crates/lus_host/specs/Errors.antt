-- Which errors a check and a run may answer, by what the devices had left.
use Rattle.std.specs.Prelude.{◌≡◌, ℕ, ⊤, ◌⊎◌, Option, IfSome}
use Rattle.lus_program.specs.Programs.{Program}
use Rattle.lus_callers.specs.MachineSpecs.Acceptance.{Accepted}
use Rattle.lus_callers.specs.declared.threads.HostError.TheVariants as hosts
use Rattle.lus_devices.specs.Devices.{Bytes, one_more}
use Rattle.lus_host.specs.ScriptRefusals.{AreRefused}
use Rattle.lus_host.specs.Sources.{IsRightRefusal}
use Rattle.lus_host.specs.declared.error.RunError.{RunError}
use Rattle.lus_host.specs.declared.error.RunError.TheVariants as errors

-- a program that is read is refused rightly, or the device or memory failed
abbrev pub IsReadingError : Option Bytes → RunError → Type 0
IsReadingError left (errors.Program e) = IsRightRefusal left e
IsReadingError left errors.Read = ⊤
IsReadingError left errors.Memory = ⊤
IsReadingError left errors.Write = ⊥
IsReadingError left (errors.Scripts e) = ⊥
IsReadingError left (errors.Host e) = ⊥

-- as while reading, or the output failed
abbrev pub IsCheckError : Option Bytes → RunError → Type 0
IsCheckError left errors.Write = ⊤
IsCheckError left e = IsReadingError left e

-- scripts that are read for a program are refused rightly, or the device or memory failed
abbrev pub IsScriptsError : Program → Option Bytes → RunError → Type 0
IsScriptsError p left (errors.Scripts e) = IfSome left (λ bytes. AreRefused p bytes e)
IsScriptsError p left errors.Read = ⊤
IsScriptsError p left errors.Memory = ⊤
IsScriptsError p left errors.Write = ⊥
IsScriptsError p left (errors.Program e) = ⊥
IsScriptsError p left (errors.Host e) = ⊥

-- scripts are refused rightly, or the device, memory or the start of a thread failed
abbrev pub IsAnsweringError : Program → Option Bytes → RunError → Type 0
IsAnsweringError p left (errors.Host hosts.Seats) = ⊥
IsAnsweringError p left (errors.Host e) = ⊤
IsAnsweringError p left e = IsScriptsError p left e

-- the program or, once it is accepted, the scripts are refused rightly, or a device, memory or the start of a thread failed
abbrev pub IsRunError : Option Bytes → Option Bytes → RunError → Type 0
IsRunError program scripts (errors.Program e) = IsRightRefusal program e
IsRunError program scripts (errors.Scripts e) =
    IfSome program (λ text. (p : Program) × Accepted text p × IfSome scripts (λ bytes. AreRefused p bytes e))
IsRunError program scripts (errors.Host hosts.Seats) = ⊥
IsRunError program scripts (errors.Host e) = ⊤
IsRunError program scripts errors.Read = ⊤
IsRunError program scripts errors.Memory = ⊤
IsRunError program scripts errors.Write = ⊤

-- one of two counts of failures grew by one
abbrev pub OneFailed : Option ℕ → Option ℕ → Option ℕ → Option ℕ → Type 0
OneFailed a_old a_new b_old b_new = ((a_new ≡ one_more a_old) × (b_new ≡ b_old)) ⊎ ((a_new ≡ a_old) × (b_new ≡ one_more b_old))
