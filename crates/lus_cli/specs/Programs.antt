-- The program of a file and its nodes, or why there is none; and the status where lines were played on a node.
use Rattle.std.specs.Prelude.{◌≡◌, ◌==◌, ℕ, None, ⊤, if◌then◌else◌}
use Rattle.lus_program.specs.Programs.{Program}
use Rattle.lus_devices.specs.Devices.{Bytes}
use Rattle.lus_devices.specs.Folders.{Known, WithFile}
use Rattle.lus_host.specs.MachineSpecs.Acceptance.{Accepted}
use Rattle.lus_host.specs.MachineSpecs.Formals.{node_named}
use Rattle.lus_host.specs.Sources.{ProgramRefused}
use Rattle.lus_cli.specs.CommandLine.{Text}
use Rattle.lus_cli.specs.Ends.{IsLost}
use Rattle.lus_cli.specs.declared.fault.Fault.{Fault}
use Rattle.lus_cli.specs.declared.fault.Fault.TheVariants as faults

-- bytes are refused as a program, or memory was wanting
abbrev pub IsCompileFault : Bytes → Fault → Type 0
IsCompileFault bytes (faults.Program e) = ProgramRefused bytes e
IsCompileFault bytes faults.Memory = ⊤
IsCompileFault bytes (faults.Journal n) = ⊥
IsCompileFault bytes (faults.Signal n) = ⊥
IsCompileFault bytes (faults.Scripts e) = ⊥
IsCompileFault bytes faults.Words = ⊥
IsCompileFault bytes faults.File = ⊥
IsCompileFault bytes faults.Output = ⊥
IsCompileFault bytes faults.Start = ⊥

-- the file is lost, it is refused, or memory was wanting
abbrev pub IsProgramFault : (Known → Type 0) → Known → Fault → Type 0
IsProgramFault read_fails program faults.File = IsLost read_fails program
IsProgramFault read_fails program (faults.Program e) = WithFile program (λ text. ProgramRefused text e)
IsProgramFault read_fails program faults.Memory = ⊤
IsProgramFault read_fails program (faults.Journal n) = ⊥
IsProgramFault read_fails program (faults.Signal n) = ⊥
IsProgramFault read_fails program (faults.Scripts e) = ⊥
IsProgramFault read_fails program faults.Words = ⊥
IsProgramFault read_fails program faults.Output = ⊥
IsProgramFault read_fails program faults.Start = ⊥

-- the program of the file is accepted, where its bytes are known
abbrev pub IsOfFile : Known → Program → Type 0
IsOfFile file p = WithFile file (λ text. Accepted text p)

-- a file's program has no node of this name
abbrev pub LacksNode : Known → Text → Type 0
LacksNode file name = (p : Program) × IsOfFile file p × (node_named p name ≡ None)

-- 0 where each line was a call
abbrev pub lines_status : ℕ → ℕ
lines_status refused = if refused == 0 then 0 else 2
