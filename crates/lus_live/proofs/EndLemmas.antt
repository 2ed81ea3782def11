-- How a live run ends, by how its parts do.
use Rattle.std.proofs.Common.{◌≡◌, ◌∙◌, ℕ, Bool, true, false, inl, inr, refl, subst, sym, List, [], Option, Some, None}
use Rattle.lus_values.specs.Names.{Names}
use Rattle.lus_requests.specs.declared.request.Entry.{Entry}
use Rattle.lus_program.specs.Programs.{Program}
use Rattle.lus_bursts.specs.Syncs.{Safety}
use Rattle.lus_devices.specs.Devices.{Bytes}
use Rattle.lus_devices.specs.Folders.{Holds, Known}
use Rattle.lus_live_instance.specs.MachineSpecs.Constructors.{names_of}
use Rattle.lus_sessions.specs.Recoveries.{HasRecovered}
use Rattle.lus_sessions.specs.declared.error.RecoveryError.{RecoveryError}
use Rattle.lus_sessions.specs.declared.error.RecoveryError.TheVariants as recoveries
use Rattle.lus_sessions.specs.declared.recovering.Start.{Start}
use Rattle.lus_scripts.specs.declared.refusal.ScriptRefusal.TheVariants as scripts
use Rattle.lus_cli.specs.Changes.{Change, change}
use Rattle.lus_cli.specs.CodeSpecs.Codes.{ProgramCode, program_of}
use Rattle.lus_cli.specs.CommandLine.{Text}
use Rattle.lus_cli.specs.Faults.{IsQuiet}
use Rattle.lus_cli.specs.MachineSpecs.CostSpecs.Costs.{IsCost}
use Rattle.lus_cli.specs.MachineSpecs.CostSpecs.Places.{place_bytes}
use Rattle.lus_cli.specs.MachineSpecs.CostSpecs.declared.cost.Cost.{Cost}
use Rattle.lus_cli.specs.MachineSpecs.Formals.{node_named}
use Rattle.lus_cli.specs.Programs.{IsOfFile, IsProgramFault}
use Rattle.lus_cli.specs.declared.fault.Fault.{Fault}
use Rattle.lus_cli.specs.declared.fault.Fault.TheVariants as faults
use Rattle.lus_cli.proofs.ProgramLemmas.{file_then}
use Rattle.lus_live.specs.CommandLine.{Asked, writes_file}
use Rattle.lus_live.specs.Ends.{AsksBehind, IsBeginFault, IsOpened, IsRecovered, IsRecoveryFault, LiveFails, LogStays, Ran, StaysIn, Tells, parties_of, recovery_fault}
use Rattle.lus_live.specs.Limits.{RefusesNode, are_kept}
use Rattle.lus_live.specs.declared.limits.Limits.{Limits}
use Rattle.lus_live.specs.declared.words.Form.{Form}
use Rattle.lus_live.specs.declared.words.Form.TheVariants.{Journal, Json, Csv}

-- what was recovered of a file that was opened is recovered of its bytes
pub recovered_file : (start : Start) (p : Program) (names : Names) (name : Text) (known : Known) (left ahead : Option Bytes) (new h : List Entry)
    → Holds known left → ahead ≡ left → new ≡ [] → names ≡ names_of p → HasRecovered start names name ahead new h → IsRecovered known p name start h
recovered_file start p names name known left ahead new h holds same none named recovered =
    file_then known (λ bytes. left ≡ Some bytes) (λ bytes. HasRecovered start (names_of p) name (Some bytes) [] h)
    (λ bytes is. subst (λ ns. HasRecovered start ns name (Some bytes) [] h) named
    (subst (λ es. HasRecovered start names name (Some bytes) es h) none
    (subst (λ o. HasRecovered start names name o new h) (same ∙ is) recovered))) holds

pub recovery_faults : (e : RecoveryError) → IsRecoveryFault (recovery_fault e)
recovery_faults (recoveries.Line n) = tt
recovery_faults (recoveries.Wrong n) = tt
recovery_faults recoveries.Read = tt
recovery_faults recoveries.Memory = tt

-- a node that costs more than it may
pub costs_more : (limits : Limits) (file : Known) (name : Text) (code : ProgramCode) (node : ℕ) (cost : Cost) → IsOfFile file (program_of code)
    → node_named (program_of code) name ≡ Some node → IsCost code.emitted (place_bytes code.source.program) node cost → are_kept limits cost ≡ false
    → RefusesNode limits file name scripts.Limit
costs_more limits file name code node cost accepted named costs more =
    inr (refl, record { code = code; accepted = accepted; node = node; named = named; cost = cost; costs = costs; more = more })

-- a fault of the program
pub program_fails : (read_fails : Known → Type 0) (limits : Limits) (file : Known) (name : Text) (journal : Option Text) (f : Fault) → IsProgramFault read_fails file f
    → LiveFails read_fails limits file name journal f
program_fails read_fails limits file name journal faults.File lost = inl lost
program_fails read_fails limits file name journal (faults.Program e) refused = refused
program_fails read_fails limits file name journal faults.Memory memory = tt
program_fails read_fails limits file name journal (faults.Journal n) never = absurd never
program_fails read_fails limits file name journal (faults.Signal n) never = absurd never
program_fails read_fails limits file name journal (faults.Scripts e) never = absurd never
program_fails read_fails limits file name journal faults.Words never = absurd never
program_fails read_fails limits file name journal faults.Output never = absurd never
program_fails read_fails limits file name journal faults.Start never = absurd never

-- a fault of a journal, of a node that the program has
journal_fails : (read_fails : Known → Type 0) (limits : Limits) (file : Known) (name journal : Text) (f : Fault) → AsksBehind file name (Some journal) → IsRecoveryFault f
    → LiveFails read_fails limits file name (Some journal) f
journal_fails read_fails limits file name journal faults.File asks is = inr asks
journal_fails read_fails limits file name journal (faults.Program e) asks never = absurd never
journal_fails read_fails limits file name journal faults.Memory asks is = tt
journal_fails read_fails limits file name journal (faults.Journal n) asks is = asks
journal_fails read_fails limits file name journal (faults.Signal n) asks never = absurd never
journal_fails read_fails limits file name journal (faults.Scripts e) asks never = absurd never
journal_fails read_fails limits file name journal faults.Words asks never = absurd never
journal_fails read_fails limits file name journal faults.Output asks never = absurd never
journal_fails read_fails limits file name journal faults.Start asks never = absurd never

-- a fault before the first line, of a node that the program has
pub begin_fails : (read_fails : Known → Type 0) (limits : Limits) (file : Known) (name : Text) (journal : Option Text) (f : Fault) (p : Program) (node : ℕ) → IsOfFile file p
    → node_named p name ≡ Some node → IsBeginFault journal f → LiveFails read_fails limits file name journal f
begin_fails read_fails limits file name None f p node accepted named fault = subst (LiveFails read_fails limits file name None) (sym fault) tt
begin_fails read_fails limits file name (Some journal) f p node accepted named fault =
    journal_fails read_fails limits file name journal f (p, node, accepted, named) fault

unopened : (form : Form) (opens : Text → Type 0) → IsOpened (writes_file form None) opens None
unopened Journal opens = tt
unopened Json opens = tt
unopened Csv opens = tt

-- without a file's journal no log is opened
pub none_opened : (form : Form) (opens : Text → Type 0) (file : Option Text) → file ≡ None → IsOpened (writes_file form file) opens file
none_opened form opens file none = subst (λ k. IsOpened (writes_file form k) opens k) (sym none) (unopened form opens)

-- what was told of a log is told of one that had taken the same
pub told_of : (form : Form) (file : Option Text) (was_synced : Safety) (p : Program) (f : ℕ) (asked : Asked) (start : Start) (left end : Option Bytes)
    (before : List Entry) (l m l' : Option Bytes) (a b c : Option ℕ) (output : Change) (ran : Ran) → m ≡ l → b ≡ a
    → Tells form file was_synced p f (parties_of asked) start left end before (change m l' b c) output ran
    → Tells form file was_synced p f (parties_of asked) start left end before (change l l' a c) output ran
told_of form file was_synced p f asked start left end before l m l' a b c output ran same still told =
    subst (λ n. Tells form file was_synced p f (parties_of asked) start left end before (change l l' n c) output ran) still
    (subst (λ o. Tells form file was_synced p f (parties_of asked) start left end before (change o l' b c) output ran) same told)

-- a log that was left alone before stays so
pub stays_of : (is_written : Bool) (l m l' : Option Bytes) (a b c : Option ℕ) → m ≡ l → b ≡ a → StaysIn is_written (change m l' b c)
    → StaysIn is_written (change l l' a c)
stays_of true l m l' a b c same still stays = tt
stays_of false l m l' a b c same still stays = (stays.0 ∙ same, stays.1 ∙ still)

pub quiet_nothing : (f : Fault) (w : Option Bytes) (n : Option ℕ) → IsQuiet f (change w w n n)
quiet_nothing (faults.Journal k) w n = tt
quiet_nothing (faults.Signal k) w n = (refl, refl)
quiet_nothing (faults.Program e) w n = (refl, refl)
quiet_nothing (faults.Scripts e) w n = tt
quiet_nothing faults.Words w n = (refl, refl)
quiet_nothing faults.File w n = (refl, refl)
quiet_nothing faults.Output w n = (refl, refl)
quiet_nothing faults.Memory w n = (refl, refl)
quiet_nothing faults.Start w n = (refl, refl)

-- a log that is left alone
flag_stays : (is_written : Bool) (w : Option Bytes) (n : Option ℕ) → StaysIn is_written (change w w n n)
flag_stays true w n = tt
flag_stays false w n = (refl, refl)

pub still_stays : (asked : Option Asked) (w : Option Bytes) (n : Option ℕ) → LogStays asked (change w w n n)
still_stays None w n = (refl, refl)
still_stays (Some asked) w n = flag_stays (writes_file asked.form asked.file) w n

-- or what a device that was left alone before had
pub left_alone : (asked : Asked) (w w' : Option Bytes) (n n' : Option ℕ) → w' ≡ w → n' ≡ n → LogStays (Some asked) (change w w' n n')
left_alone asked w w' n n' same still =
    subst (λ o. StaysIn (writes_file asked.form asked.file) (change w o n n')) (sym same)
    (subst (λ m. StaysIn (writes_file asked.form asked.file) (change w w n m)) (sym still) (flag_stays (writes_file asked.form asked.file) w n))
