-- How a live run ends: what was played on which node, or which fault came before the first line.
use Rattle.std.specs.Prelude.{◌≡◌, ◌⊎◌, ℕ, Bool, true, false, List, [], Option, Some, None, Result, Ok, Err, ⊤}
use Rattle.lus_program.specs.Programs.{Program}
use Rattle.lus_devices.specs.Devices.{Bytes}
use Rattle.lus_devices.specs.Folders.{Known, WithFile}
use Rattle.lus_bursts.specs.Syncs.{Safety}
use Rattle.lus_scripts.specs.declared.refusal.ScriptRefusal.TheVariants as scripts
use Rattle.lus_requests.specs.declared.request.Entry.{Entry}
use Rattle.lus_live_instance.specs.MachineSpecs.Constructors.{names_of}
use Rattle.lus_play.specs.declared.error.PlayError.{PlayError}
use Rattle.lus_play.specs.declared.error.PlayError.TheVariants as plays
use Rattle.lus_play.specs.declared.playing.Score.{Score}
use Rattle.lus_sessions.specs.Calls.{IsCallTo}
use Rattle.lus_sessions.specs.Recoveries.{HasRecovered}
use Rattle.lus_sessions.specs.Sessions.{Parties, Scribe, journal_lines, no_journal}
use Rattle.lus_sessions.specs.declared.error.RecoveryError.{RecoveryError}
use Rattle.lus_sessions.specs.declared.error.RecoveryError.TheVariants as recoveries
use Rattle.lus_sessions.specs.declared.recovering.Start.{Start}
use Rattle.lus_sessions.specs.declared.recovering.Start.TheVariants as starts
use Rattle.lus_cli.specs.HostSpecs.Sources.{ProgramRefused}
use Rattle.lus_cli.specs.MachineSpecs.Formals.{node_named}
use Rattle.lus_cli.specs.Changes.{Change, IsUntouched, change}
use Rattle.lus_cli.specs.CommandLine.{Text}
use Rattle.lus_cli.specs.Ends.{AskedEnds, IsLost}
use Rattle.lus_cli.specs.Faults.{IsToldAlone, IsToldLast}
use Rattle.lus_cli.specs.Programs.{IsOfFile, lines_status}
use Rattle.lus_cli.specs.declared.fault.Fault.{Fault}
use Rattle.lus_cli.specs.declared.fault.Fault.TheVariants as faults
use Rattle.lus_live.specs.CommandLine.{Asked, writes_file}
use Rattle.lus_live.specs.Limits.{RefusesNode}
use Rattle.lus_live.specs.declared.limits.Limits.{Limits}
use Rattle.lus_live.specs.Runs.{HasRun, HasRunSome, Unasked, json_says, silence}
use Rattle.lus_live.specs.Tables.{HasToldTable, HasToldTableSome}
use Rattle.lus_live.specs.declared.words.Form.{Form}
use Rattle.lus_live.specs.declared.words.Form.TheVariants.{Journal, Json, Csv}

-- what became of the lines: all were read, or an error came first
abbrev pub Ran : Type 0
Ran = Result Score PlayError

-- ---- what a run goes on behind

-- a file's journal of the node of this name is replayed, to where a run goes on
abbrev pub IsRecovered : Known → Program → Text → Start → List Entry → Type 0
IsRecovered had p name start before = WithFile had (λ bytes. HasRecovered start (names_of p) name (Some bytes) [] before)

-- nothing, or a file's journal
abbrev pub Begins : (Text → Known) → Program → Text → Option Text → Start → List Entry → Type 0
Begins known p name None start before = (start ≡ starts.Head 0) × (before ≡ [])
Begins known p name (Some file) start before = IsRecovered (known file) p name start before

-- a device of this type was this, and was opened by this name
abbrev pub Opens : (L : Type 0) → (L → Text → L → Type 0) → L → Text → Type 0
Opens L opens log name = (opened : L) × opens log name opened

-- a log was opened by the name of the journal that a run itself writes on in
abbrev pub IsOpened : Bool → (Text → Type 0) → Option Text → Type 0
IsOpened false opens file = ⊤
IsOpened true opens None = ⊤
IsOpened true opens (Some file) = opens file

-- ---- what is told

-- a run without a file's journal keeps none
abbrev pub kept_in : Option Text → Program → Parties → Scribe
kept_in None p who = no_journal
kept_in (Some file) p who = journal_lines (names_of p) who

-- and then it has no log
abbrev pub log_of : Option Text → Change → Change
log_of None log = change None None None None
log_of (Some file) log = log

abbrev pub safety_of : Option Text → Safety → Safety
safety_of None was_synced = Unasked
safety_of (Some file) was_synced = was_synced

-- the calls among the lines are written on in a journal
abbrev pub Journals : Program → ℕ → Parties → Start → Option Bytes → Option Bytes → List Entry → Change → Ran → Type 0
Journals p f who start left end before output (Ok score) =
    HasRun p f (IsCallTo p (names_of p) f) (journal_lines (names_of p) who) silence Unasked start left end before output.old output.new None None score
Journals p f who start left end before output (Err e) =
    HasRunSome p f (IsCallTo p (names_of p) f) (journal_lines (names_of p) who) silence Unasked start left before output.old output.new None None

-- their replies are told as objects of JSON, once their entries are in the journal, where there is one
abbrev pub TellsJson : Program → ℕ → Scribe → Safety → Start → Option Bytes → Option Bytes → List Entry → Change → Change → Ran → Type 0
TellsJson p f j IsSafe start left end before log output (Ok score) =
    HasRun p f (IsCallTo p (names_of p) f) j (json_says p f) IsSafe start left end before log.old log.new output.old output.new score
TellsJson p f j IsSafe start left end before log output (Err e) =
    HasRunSome p f (IsCallTo p (names_of p) f) j (json_says p f) IsSafe start left before log.old log.new output.old output.new

-- likewise as a table, as which steps are read
abbrev pub TellsTable : Program → ℕ → Scribe → Safety → Start → Option Bytes → Option Bytes → List Entry → Change → Change → Ran → Type 0
TellsTable p f j IsSafe start left end before log output (Ok score) =
    HasToldTable p f j IsSafe start left end before log.old log.new output.old output.new score
TellsTable p f j IsSafe start left end before log output (Err e) =
    HasToldTableSome p f j IsSafe start left before log.old log.new output.old output.new

abbrev pub Tells : Form → Option Text → Safety → Program → ℕ → Parties → Start → Option Bytes → Option Bytes → List Entry → Change → Change → Ran
    → Type 0
Tells Journal file was_synced p f who start left end before log output ran = Journals p f who start left end before output ran
Tells Json file was_synced p f who start left end before log output ran =
    TellsJson p f (kept_in file p who) (safety_of file was_synced) start left end before (log_of file log) output ran
Tells Csv file was_synced p f who start left end before log output ran =
    TellsTable p f (kept_in file p who) (safety_of file was_synced) start left end before (log_of file log) output ran

-- whom a journal of what was asked for names
abbrev pub parties_of : Asked → Parties
parties_of asked = record { node = asked.node; caller = asked.caller }

-- lines were played on the node of this number, behind what was asked for, and are told so; where the journal of a file is to be synced, it was
-- before anything was told
pub record HasPlayed (known : Text → Known) (opens : Text → Type 0) (was_synced : Bool → Safety) (asked : Asked) (left end : Option Bytes)
    (log : Change) (ran : Ran) (output : Change) (p : Program) (node : ℕ) : Type 0 where
  pub start : Start
  pub before : List Entry
  pub begins : Begins known p asked.node asked.file start before
  pub opened : IsOpened (writes_file asked.form asked.file) opens asked.file
  pub tells : Tells asked.form asked.file (was_synced asked.is_synced) p node (parties_of asked) start left end before log output ran

-- this holds of the node of this name of a file's program
pub record OfNode (file : Known) (name : Text) (Holds : Program → ℕ → Type 0) : Type 0 where
  pub program : Program
  pub accepted : IsOfFile file program
  pub node : ℕ
  pub named : node_named program name ≡ Some node
  pub holds : Holds program node

-- it has one, and a file's journal is gone on in
abbrev pub AsksBehind : Known → Text → Option Text → Type 0
AsksBehind file name None = ⊥
AsksBehind file name (Some journal) = (p : Program) × (node : ℕ) × IsOfFile file p × (node_named p name ≡ Some node)

-- why no line is played: the program's file is lost, it is refused, or it lacks the node, or this costs more than it may; or the journal's file is lost, or a line of it
-- isn't right; or memory was wanting
abbrev pub LiveFails : (Known → Type 0) → Limits → Known → Text → Option Text → Fault → Type 0
LiveFails read_fails limits file name journal faults.File = IsLost read_fails file ⊎ AsksBehind file name journal
LiveFails read_fails limits file name journal (faults.Program e) = WithFile file (λ text. ProgramRefused text e)
LiveFails read_fails limits file name journal (faults.Scripts e) = RefusesNode limits file name e
LiveFails read_fails limits file name journal faults.Memory = ⊤
LiveFails read_fails limits file name journal (faults.Journal n) = AsksBehind file name journal
LiveFails read_fails limits file name journal (faults.Signal n) = ⊥
LiveFails read_fails limits file name journal faults.Words = ⊥
LiveFails read_fails limits file name journal faults.Output = ⊥
LiveFails read_fails limits file name journal faults.Start = ⊥

-- the lines are played, or no line is read and nothing is written
abbrev pub TaskEnds : (Known → Type 0) → (Text → Known) → (Text → Type 0) → (Bool → Safety) → Option Bytes → Option Bytes → Change → Asked
    → Result Ran Fault → Change → Type 0
TaskEnds read_fails known opens was_synced left end log asked (Ok ran) output =
    OfNode (known asked.program) asked.node (HasPlayed known opens was_synced asked left end log ran output)
TaskEnds read_fails known opens was_synced left end log asked (Err f) output =
    LiveFails read_fails asked.limits (known asked.program) asked.node asked.file f × (end ≡ left) × IsUntouched log × IsUntouched output

-- unless the run itself writes on in a file's journal, the log is left alone
abbrev pub StaysIn : Bool → Change → Type 0
StaysIn false log = IsUntouched log
StaysIn true log = ⊤

abbrev pub LogStays : Option Asked → Change → Type 0
LogStays None log = IsUntouched log
LogStays (Some asked) log = StaysIn (writes_file asked.form asked.file) log

-- ---- inside

-- of a journal that isn't gone on from
abbrev pub IsRecoveryFault : Fault → Type 0
IsRecoveryFault faults.File = ⊤
IsRecoveryFault faults.Memory = ⊤
IsRecoveryFault (faults.Journal n) = ⊤
IsRecoveryFault (faults.Signal n) = ⊥
IsRecoveryFault (faults.Program e) = ⊥
IsRecoveryFault (faults.Scripts e) = ⊥
IsRecoveryFault faults.Words = ⊥
IsRecoveryFault faults.Output = ⊥
IsRecoveryFault faults.Start = ⊥

abbrev pub recovery_fault : RecoveryError → Fault
recovery_fault (recoveries.Line n) = faults.Journal n
recovery_fault (recoveries.Wrong n) = faults.Journal n
recovery_fault recoveries.Read = faults.File
recovery_fault recoveries.Memory = faults.Memory

-- without a file's journal memory alone may be wanting
abbrev pub IsBeginFault : Option Text → Fault → Type 0
IsBeginFault None f = f ≡ faults.Memory
IsBeginFault (Some file) f = IsRecoveryFault f

-- ---- what is told of faults

abbrev pub play_fault : PlayError → Fault
play_fault plays.Read = faults.File
play_fault plays.Write = faults.Output
play_fault plays.Memory = faults.Memory
play_fault plays.Full = faults.Scripts scripts.Limit

abbrev pub IsTold : Result Ran Fault → ℕ → Change → Type 0
IsTold (Ok (Ok score)) status faults = status ≡ lines_status score.refused
IsTold (Ok (Err e)) status faults = IsToldLast status (play_fault e) faults
IsTold (Err f) status faults = IsToldAlone status f faults

-- a live run ends with an outcome of what was asked for, which is told
pub record Ends (read_fails : Known → Type 0) (known : Text → Known) (opens : Text → Type 0) (was_synced : Bool → Safety) (asked : Option Asked)
    (left end : Option Bytes) (log output faults : Change) (status : ℕ) : Type 0 where
  pub outcome : Result Ran Fault
  pub ends : AskedEnds (TaskEnds read_fails known opens was_synced left end log) asked outcome output
  pub told : IsTold outcome status faults
