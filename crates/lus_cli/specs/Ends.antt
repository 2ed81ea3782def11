-- How a command ends: what became of what was asked for, what the output took of it, and what was told.
use Rattle.std.specs.Prelude.{◌≡◌, ◌⊎◌, ℕ, true, false, Option, Some, None, Result, Ok, Err, ⊤}
use Rattle.lus_program.specs.Programs.{Program}
use Rattle.lus_host.specs.MachineSpecs.Acceptance.{Accepted}
use Rattle.lus_devices.specs.Devices.{Bytes, WritesBeginning, one_more, with_text}
use Rattle.lus_devices.specs.Folders.{Holds, IsMissing, Known, WithFile}
use Rattle.lus_host.specs.Runs.{BeginsRun, WritesRun}
use Rattle.lus_host.specs.ScriptRefusals.{ScriptsRefused}
use Rattle.lus_host.specs.Sources.{BeginsAccepted, ProgramRefused, WritesAccepted}
use Rattle.lus_scripts.specs.declared.refusal.ScriptRefusal.{ScriptRefusal}
use Rattle.lus_cli.specs.Changes.{Change, HasFailed, IsSound, IsUntouched}
use Rattle.lus_cli.specs.CommandLine.{Asked, Text, check, run}
use Rattle.lus_cli.specs.Faults.{IsToldBy, Outcome}
use Rattle.lus_cli.specs.declared.fault.Fault.{Fault}
use Rattle.lus_cli.specs.declared.fault.Fault.TheVariants as faults

-- a read failed of a file that had the known bytes when it was opened
abbrev pub ReadFails : (File : Type 0) → (File → Option Bytes) → (File → Option ℕ) → Known → Type 0
ReadFails File left failures known =
    (before : File) × (after : File) × Holds known (left before) × (failures after ≡ one_more (failures before))

-- a file can't be opened, or a read of it failed
abbrev pub IsLost : (Known → Type 0) → Known → Type 0
IsLost read_fails known = IsMissing known ⊎ read_fails known

-- how a check of a program ends, by what is known of its file
abbrev pub CheckEnds : (Known → Type 0) → Known → Outcome → Change → Type 0
CheckEnds read_fails program (Ok done) output = WithFile program (λ text. WritesAccepted text output.old output.new) × IsSound output
CheckEnds read_fails program (Err (faults.Program e)) output = WithFile program (λ text. ProgramRefused text e) × IsUntouched output
CheckEnds read_fails program (Err faults.File) output = IsLost read_fails program × IsUntouched output
CheckEnds read_fails program (Err faults.Output) output =
    WithFile program (λ text. BeginsAccepted text output.old output.new) × HasFailed output
CheckEnds read_fails program (Err faults.Memory) output = IsUntouched output
CheckEnds read_fails program (Err faults.Words) output = ⊥
CheckEnds read_fails program (Err faults.Start) output = ⊥
CheckEnds read_fails program (Err (faults.Journal n)) output = ⊥
CheckEnds read_fails program (Err (faults.Signal n)) output = ⊥
CheckEnds read_fails program (Err (faults.Scripts e)) output = ⊥

-- where it is known whether there are both files, there are, and this holds of their bytes
abbrev pub WithFiles : Known → Known → (Bytes → Bytes → Type 0) → Type 0
WithFiles program scripts P = WithFile program (λ text. WithFile scripts (λ bytes. P text bytes))

-- the bytes are refused as scripts of the program that the text is accepted as
abbrev pub RefusesScripts : ScriptRefusal → Bytes → Bytes → Type 0
RefusesScripts e text bytes = (p : Program) × Accepted text p × ScriptsRefused p bytes e

-- how a run of a program with scripts ends; out of memory, nothing or a beginning of the journals is written, or all
-- of them, where a caller ran out
abbrev pub RunEnds : (Known → Type 0) → Known → Known → Outcome → Change → Type 0
RunEnds read_fails program scripts (Ok done) output =
    WithFiles program scripts (λ text bytes. WritesRun text bytes true output.old output.new) × IsSound output
RunEnds read_fails program scripts (Err (faults.Program e)) output =
    WithFiles program scripts (λ text bytes. ProgramRefused text e) × IsUntouched output
RunEnds read_fails program scripts (Err (faults.Scripts e)) output = WithFiles program scripts (RefusesScripts e) × IsUntouched output
RunEnds read_fails program scripts (Err faults.File) output = (IsLost read_fails program ⊎ IsLost read_fails scripts) × IsUntouched output
RunEnds read_fails program scripts (Err faults.Output) output =
    WithFiles program scripts (λ text bytes. BeginsRun text bytes output.old output.new) × HasFailed output
RunEnds read_fails program scripts (Err faults.Memory) output =
    ((output.new ≡ output.old)
    ⊎ WithFiles program scripts (λ text bytes. BeginsRun text bytes output.old output.new)
    ⊎ WithFiles program scripts (λ text bytes. WritesRun text bytes false output.old output.new)) × IsSound output
RunEnds read_fails program scripts (Err faults.Start) output = IsUntouched output
RunEnds read_fails program scripts (Err faults.Words) output = ⊥
RunEnds read_fails program scripts (Err (faults.Journal n)) output = ⊥
RunEnds read_fails program scripts (Err (faults.Signal n)) output = ⊥

-- how what is asked of `lus` ends
abbrev pub TaskEnds : (Known → Type 0) → (Text → Known) → Asked → Outcome → Change → Type 0
TaskEnds read_fails known (check program) outcome output = CheckEnds read_fails (known program) outcome output
TaskEnds read_fails known (run program scripts) outcome output = RunEnds read_fails (known program) (known scripts) outcome output

-- ---- of any command

-- a fault of reading: a file is lost, or memory was wanting
abbrev pub IsReadingFault : Type 0 → Fault → Type 0
IsReadingFault lost (faults.Program e) = ⊥
IsReadingFault lost (faults.Scripts e) = ⊥
IsReadingFault lost (faults.Journal n) = ⊥
IsReadingFault lost (faults.Signal n) = ⊥
IsReadingFault lost faults.Words = ⊥
IsReadingFault lost faults.File = lost
IsReadingFault lost faults.Output = ⊥
IsReadingFault lost faults.Memory = ⊤
IsReadingFault lost faults.Start = ⊥

-- how a command ends that says one text: the output took all of it, or failed and took a beginning of it; or a fault that has its
-- cause came before, and nothing is written
abbrev pub SaysEnds : {A : Type 0} → (A → Bytes → Type 0) → (Fault → Type 0) → Result A Fault → Change → Type 0
SaysEnds {A = A} Says Fails (Ok done) output = (text : Bytes) × Says done text × (output.new ≡ with_text output.old text) × IsSound output
SaysEnds {A = A} Says Fails (Err faults.Output) output =
    (done : A) × (text : Bytes) × Says done text × WritesBeginning output.old output.new text × HasFailed output
SaysEnds {A = A} Says Fails (Err f) output = Fails f × IsUntouched output

-- unknown or missing arguments are told, or out of memory
abbrev pub AskedEnds : {X A : Type 0} → (X → Result A Fault → Change → Type 0) → Option X → Result A Fault → Change → Type 0
AskedEnds ends None outcome output = ((outcome ≡ Err faults.Words) ⊎ (outcome ≡ Err faults.Memory)) × IsUntouched output
AskedEnds ends (Some asked) outcome output = ends asked outcome output

-- the status of what is done and no line, or the status and the line of the fault
abbrev pub IsTold : {A : Type 0} → (A → ℕ) → Result A Fault → ℕ → Change → Type 0
IsTold status_of (Ok done) status faults = (status ≡ status_of done) × IsUntouched faults
IsTold status_of (Err f) status faults = IsToldBy status f faults

-- a command ends with an outcome of what was asked for, which is told
pub record Ends {X A : Type 0} (status_of : A → ℕ) (ends_so : X → Result A Fault → Change → Type 0) (asked : Option X)
    (output faults : Change) (status : ℕ) : Type 0 where
  pub outcome : Result A Fault
  pub ends : AskedEnds ends_so asked outcome output
  pub told : IsTold status_of outcome status faults
