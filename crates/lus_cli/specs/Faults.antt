-- How a command ends short: the status of the process, and the line on standard error.
use Rattle.std.specs.Prelude.{◌≡◌, ◌⊎◌, ℕ, ◌++◌, codes, Bool, true, false, Option, Result, Ok, Err, ⊤}
use Rattle.std.specs.Fmt.{decimal}
use Rattle.lus_devices.specs.Devices.{Bytes, WritesBeginning, with_text}
use Rattle.lus_host.specs.CallersSpecs.declared.threads.HostError.{HostError}
use Rattle.lus_host.specs.CallersSpecs.declared.threads.HostError.TheVariants as hosts
use Rattle.lus_host.specs.declared.error.RunError.{RunError}
use Rattle.lus_host.specs.declared.error.RunError.TheVariants as runs
use Rattle.lus_scripts.specs.declared.refusal.ScriptRefusal.{ScriptRefusal}
use Rattle.lus_scripts.specs.declared.refusal.ScriptRefusal.TheVariants as scripts
use Rattle.lus_syntax.specs.Refusals.{refusal_text}
use Rattle.lus_syntax.specs.declared.refusal.Refusal.{Refusal}
use Rattle.lus_syntax.specs.declared.refusal.RefusalNumber.{RefusalNumber}
use Rattle.lus_syntax.specs.declared.refusal.RefusalNumber.TheVariants as numbers
use Rattle.lus_cli.specs.Changes.{Change, HasFailed, IsSound, IsUntouched, change}
use Rattle.lus_cli.specs.CommandLine.{Text}
use Rattle.lus_cli.specs.declared.words.WordsError.{WordsError}
use Rattle.lus_cli.specs.declared.words.WordsError.TheVariants as words
use Rattle.lus_cli.specs.declared.fault.Fault.{Fault}
use Rattle.lus_cli.specs.declared.fault.Fault.TheVariants as faults

abbrev pub words_fault : WordsError → Fault
words_fault words.Mistaken = faults.Words
words_fault words.Memory = faults.Memory

abbrev pub program_fault : RefusalNumber → Refusal → Fault
program_fault numbers.Memory r = faults.Memory
program_fault number r = faults.Program r

abbrev pub scripts_fault : ScriptRefusal → Fault
scripts_fault scripts.Memory = faults.Memory
scripts_fault r = faults.Scripts r

-- callers that were not run
abbrev pub host_fault : HostError → Fault
host_fault hosts.Memory = faults.Memory
host_fault hosts.Start = faults.Start
host_fault hosts.Seats = faults.Start

-- out of memory is one fault, whatever wanted it
abbrev pub run_fault : RunError → Fault
run_fault (runs.Program r) = program_fault r.number r
run_fault (runs.Scripts r) = scripts_fault r
run_fault runs.Read = faults.File
run_fault runs.Write = faults.Output
run_fault (runs.Host e) = host_fault e
run_fault runs.Memory = faults.Memory

abbrev pub fault_status : Fault → ℕ
fault_status (faults.Program r) = 1
fault_status (faults.Scripts r) = 2
fault_status (faults.Journal n) = 2
fault_status (faults.Signal n) = 2
fault_status faults.Words = 2
fault_status faults.File = 3
fault_status faults.Output = 3
fault_status faults.Memory = 4
fault_status faults.Start = 4

abbrev pub script_text : ScriptRefusal → Text
script_text scripts.Json = codes "S1"
script_text scripts.Form = codes "S2"
script_text scripts.Unknown = codes "S3"
script_text scripts.Double = codes "S4"
script_text scripts.Limit = codes "S5"
script_text scripts.Memory = codes "S6"

abbrev pub fault_text : Fault → Text
fault_text (faults.Program r) = refusal_text r
fault_text (faults.Scripts r) = script_text r
fault_text (faults.Journal n) = codes "journal line " ++ decimal n
fault_text (faults.Signal n) = codes "signal " ++ decimal n
fault_text faults.Words = codes "words"
fault_text faults.File = codes "file"
fault_text faults.Output = codes "output"
fault_text faults.Memory = codes "memory"
fault_text faults.Start = codes "start"

abbrev pub fault_line : Fault → Text
fault_line f = codes "error " ++ fault_text f ++ codes "\n"

-- the line is written whole, or the device failed once and a beginning of it is written
abbrev pub Told : Text → Change → Type 0
Told line c = ((c.new ≡ with_text c.old line) × IsSound c) ⊎ (WritesBeginning c.old c.new line × HasFailed c)

-- the status and the line are the fault's
abbrev pub IsToldBy : ℕ → Fault → Change → Type 0
IsToldBy status f c = (status ≡ fault_status f) × Told (fault_line f) c

-- what became of a check or a run: it is done, or a fault ended it
abbrev pub Outcome : Type 0
Outcome = Result (Unit {0}) Fault

-- a run in which a caller ran out ends out of memory, once its journals are written
abbrev pub run_outcome : Result Bool RunError → Outcome
run_outcome (Ok true) = Ok tt
run_outcome (Ok false) = Err faults.Memory
run_outcome (Err e) = Err (run_fault e)

-- ---- of a command that says more than the line of a fault

-- before a fault is told nothing was said, unless it is a journal's, or the program lacks the node
abbrev pub IsQuiet : Fault → Change → Type 0
IsQuiet (faults.Journal n) c = ⊤
IsQuiet (faults.Program e) c = IsUntouched c
IsQuiet (faults.Signal n) c = IsUntouched c
IsQuiet (faults.Scripts e) c = ⊤
IsQuiet faults.Words c = IsUntouched c
IsQuiet faults.File c = IsUntouched c
IsQuiet faults.Output c = IsUntouched c
IsQuiet faults.Memory c = IsUntouched c
IsQuiet faults.Start c = IsUntouched c

-- the status and the line are the fault's, behind what was said before
abbrev pub IsToldLast : ℕ → Fault → Change → Type 0
IsToldLast status f faults = (said : Option Bytes) × (failed : Option ℕ) × IsToldBy status f (change said faults.new failed faults.after)

-- a journal's fault is told behind the line that isn't right, that of a node behind the names of those that there are, and any other alone
abbrev pub IsToldAlone : ℕ → Fault → Change → Type 0
IsToldAlone status (faults.Journal n) c = IsToldLast status (faults.Journal n) c
IsToldAlone status (faults.Program e) c = IsToldBy status (faults.Program e) c
IsToldAlone status (faults.Signal n) c = IsToldBy status (faults.Signal n) c
IsToldAlone status (faults.Scripts e) c = IsToldLast status (faults.Scripts e) c
IsToldAlone status faults.Words c = IsToldBy status faults.Words c
IsToldAlone status faults.File c = IsToldBy status faults.File c
IsToldAlone status faults.Output c = IsToldBy status faults.Output c
IsToldAlone status faults.Memory c = IsToldBy status faults.Memory c
IsToldAlone status faults.Start c = IsToldBy status faults.Start c
