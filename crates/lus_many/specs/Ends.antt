-- How a host of many instances ends: what became of its lines, or which fault came before the first.
use Rattle.std.specs.Prelude.{◌≡◌, ◌⊎◌, ℕ, Bool, true, false, List, [], Option, Some, None, Result, Ok, Err, ⊤}
use Rattle.lus_program.specs.Programs.{Program}
use Rattle.lus_devices.specs.Devices.{Bytes}
use Rattle.lus_devices.specs.Folders.{Known, WithFile}
use Rattle.lus_bursts.specs.Syncs.{Safety}
use Rattle.lus_scripts.specs.declared.refusal.ScriptRefusal.TheVariants as scripts
use Rattle.lus_hosting.specs.LiveSpecs.MachineSpecs.Constructors.{names_of}
use Rattle.lus_hosting.specs.LiveSpecs.PlaySpecs.declared.playing.Score.{Score}
use Rattle.lus_hosting.specs.Hosts.{Keeps}
use Rattle.lus_hosting.specs.Logs.{Logged}
use Rattle.lus_hosting.specs.Recoveries.{HasRecovered}
use Rattle.lus_hosting.specs.Spellings.{Spelling, log_spelling, no_spelling}
use Rattle.lus_hosting.specs.Turns.{AreSafe, HasHosted, HasHostedSome, Reads, StopsBy, calls, everything}
use Rattle.lus_hosting.specs.declared.error.HostError.{HostError}
use Rattle.lus_hosting.specs.declared.error.HostError.TheVariants as hosts
use Rattle.lus_hosting.specs.declared.recovering.Recovered.{Recovered}
use Rattle.lus_cli.specs.HostSpecs.Sources.{ProgramRefused}
use Rattle.lus_cli.specs.MachineSpecs.Formals.{node_named}
use Rattle.lus_cli.specs.Changes.{Change, IsUntouched}
use Rattle.lus_cli.specs.CommandLine.{Text}
use Rattle.lus_cli.specs.Ends.{AskedEnds, IsLost}
use Rattle.lus_cli.specs.Faults.{IsToldAlone, IsToldLast}
use Rattle.lus_cli.specs.Programs.{IsOfFile, lines_status}
use Rattle.lus_cli.specs.declared.fault.Fault.{Fault}
use Rattle.lus_cli.specs.declared.fault.Fault.TheVariants as faults
use Rattle.lus_live.specs.Ends.{IsRecoveryFault}
use Rattle.lus_live.specs.Limits.{RefusesNode}
use Rattle.lus_live.specs.declared.limits.Limits.{Limits}
use Rattle.lus_many.specs.CommandLine.{Asked, Session}
use Rattle.lus_many.specs.Objects.{node_spelling}

-- what became of the lines: all were read, or an error came first
abbrev pub Ran : Type 0
Ran = Result Score HostError

-- how it is spelled what becomes of lines: as objects of JSON, or as a log
abbrev pub spelling_of : Bool → Program → ℕ → Spelling
spelling_of true p f = node_spelling p f
spelling_of false p f = log_spelling (names_of p)

-- behind these entries the entries of each instance are a lawful history, which are in the log before they are told; or after an error a
-- beginning of that
abbrev pub HostedOn : Reads → Spelling → Bool → Program → ℕ → List Logged → Option Bytes → Option Bytes → Change → Ran → Change → Type 0
HostedOn reads j is_json p f before left end log (Ok score) output =
    HasHosted reads p f j (spelling_of is_json p f) before left end log.old log.new output.old output.new score
HostedOn reads j is_json p f before left end log (Err e) output =
    HasHostedSome reads p f j (spelling_of is_json p f) before left log.old log.new output.old output.new × StopsBy reads e

-- without a log of its own, of which nothing is known
abbrev pub Hosted : Bool → Program → ℕ → Option Bytes → Option Bytes → Ran → Change → Type 0
Hosted is_json p f left end (Ok score) output =
    HasHosted everything p f no_spelling (spelling_of is_json p f) [] left end None None output.old output.new score
Hosted is_json p f left end (Err e) output =
    HasHostedSome everything p f no_spelling (spelling_of is_json p f) [] left None None output.old output.new

-- a file's log is replayed, to where a run goes on
abbrev pub IsRecovered : Known → Program → ℕ → Recovered → Type 0
IsRecovered had p f r = (log : List Logged) × WithFile had (λ bytes. HasRecovered p f (Some bytes) log r) × Keeps p f log r.instances

-- where a line was cut short, what the file of a log has behind so many bytes is taken away, and nothing where none was
abbrev pub CutsTail : {L : Type 0} → (L → ℕ → L → Type 0) → Option ℕ → ℕ → L → L → Type 0
CutsTail cuts None bytes log new = new ≡ log
CutsTail cuts (Some line) bytes log new = cuts log bytes new

-- a device of this type was this, was opened by this name, and the end of its file was cut so
pub record IsReadied (L : Type 0) (opens : L → Text → L → Type 0) (cuts : L → ℕ → L → Type 0) (log : L) (name : Text) (cut : Option ℕ) (bytes : ℕ)
    : Type 0 where
  pub opened : L
  pub ready : L
  pub opens_so : opens log name opened
  pub cuts_so : CutsTail cuts cut bytes opened ready

-- a log by the name of its file, and how its end is cut
abbrev pub Readies : Type 1
Readies = Text → Option ℕ → ℕ → Type 0

-- Behind the whole lines of a log, what stood behind which was cut, the input's calls were made. Where syncs are asked for, each answer that
-- is begun is to a call whose entry was in the log when that was synced.
pub record HasGoneOn (had : Known) (readies : Option ℕ → ℕ → Type 0) (is_safe : Safety) (is_json : Bool) (session : Session) (p : Program) (f : ℕ)
    (left end : Option Bytes) (log : Change) (ran : Ran) (output : Change) : Type 0 where
  pub recovered : Recovered
  pub before : List Logged
  pub replayed : WithFile had (λ bytes. HasRecovered p f (Some bytes) before recovered)
  pub readied : readies recovered.cut recovered.bytes
  pub hosted : HostedOn (calls session.caller) (log_spelling (names_of p)) is_json p f before left end log ran output
  pub safe : session.is_synced ≡ true
      → AreSafe (calls session.caller) p f (log_spelling (names_of p)) (spelling_of is_json p f) before is_safe left log.old log.new output.old output.new

-- with a log or without one
abbrev pub HasRunIn : (Text → Known) → Readies → Safety → Bool → Option Session → Program → ℕ → Option Bytes → Option Bytes → Change → Ran → Change
    → Type 0
HasRunIn known readies is_safe is_json None p f left end log ran output = Hosted is_json p f left end ran output
HasRunIn known readies is_safe is_json (Some session) p f left end log ran output =
    HasGoneOn (known session.log) (readies session.log) is_safe is_json session p f left end log ran output

-- instances of the node of this name of a file's program were hosted
pub record HasRun (known : Text → Known) (readies : Readies) (is_safe : Safety) (asked : Asked) (left end : Option Bytes) (log : Change) (ran : Ran)
    (output : Change) : Type 0 where
  pub program : Program
  pub accepted : IsOfFile (known asked.program) program
  pub node : ℕ
  pub named : node_named program asked.node ≡ Some node
  pub hosted : HasRunIn known readies is_safe asked.is_json asked.session program node left end log ran output

-- a log is gone on in, of a node that the file has
abbrev pub AsksSession : Known → Text → Option Session → Type 0
AsksSession file name None = ⊥
AsksSession file name (Some session) = (p : Program) × (node : ℕ) × IsOfFile file p × (node_named p name ≡ Some node)

-- why no line is read: the program's file is lost, it is refused, or it lacks the node, or this costs more than it may; or the log's file is lost, or a line of it isn't
-- right, or can't be taken away; or memory was wanting
abbrev pub HostFails : (Known → Type 0) → Limits → Known → Text → Option Session → Fault → Type 0
HostFails read_fails limits file name session faults.File = IsLost read_fails file ⊎ AsksSession file name session
HostFails read_fails limits file name session (faults.Program e) = WithFile file (λ text. ProgramRefused text e)
HostFails read_fails limits file name session (faults.Scripts e) = RefusesNode limits file name e
HostFails read_fails limits file name session faults.Memory = ⊤
HostFails read_fails limits file name session (faults.Journal n) = AsksSession file name session
HostFails read_fails limits file name session (faults.Signal n) = ⊥
HostFails read_fails limits file name session faults.Words = ⊥
HostFails read_fails limits file name session faults.Output = AsksSession file name session
HostFails read_fails limits file name session faults.Start = ⊥

-- instances are hosted, or no line is read and nothing is written
abbrev pub TaskEnds : (Known → Type 0) → (Text → Known) → Readies → Safety → Option Bytes → Option Bytes → Change → Asked → Result Ran Fault → Change
    → Type 0
TaskEnds read_fails known readies is_safe left end log asked (Ok ran) output = HasRun known readies is_safe asked left end log ran output
TaskEnds read_fails known readies is_safe left end log asked (Err f) output =
    HostFails read_fails asked.limits (known asked.program) asked.node asked.session f × (end ≡ left) × IsUntouched log × IsUntouched output

-- without a log among the words the log's device is left alone
abbrev pub StaysIn : Option Session → Change → Type 0
StaysIn None log = IsUntouched log
StaysIn (Some session) log = ⊤

abbrev pub LogStays : Option Asked → Change → Type 0
LogStays None log = IsUntouched log
LogStays (Some asked) log = StaysIn asked.session log

-- ---- inside

-- of a log that isn't gone on from, or whose end can't be taken away
abbrev pub IsSessionFault : Fault → Type 0
IsSessionFault e = IsRecoveryFault e ⊎ (e ≡ faults.Output)

abbrev pub GoesOn : Known → (Option ℕ → ℕ → Type 0) → Safety → Bool → Session → Program → ℕ → Option Bytes → Option Bytes → Change → Result Ran Fault
    → Change → Type 0
GoesOn had readies is_safe is_json session p f left end log (Ok ran) output = HasGoneOn had readies is_safe is_json session p f left end log ran output
GoesOn had readies is_safe is_json session p f left end log (Err e) output = IsSessionFault e × (end ≡ left) × IsUntouched log × IsUntouched output

-- ---- what is told

abbrev pub host_fault : HostError → Fault
host_fault (hosts.Line n) = faults.Journal n
host_fault (hosts.Wrong n) = faults.Journal n
host_fault hosts.Read = faults.File
host_fault hosts.Write = faults.Output
host_fault hosts.Memory = faults.Memory
host_fault hosts.Full = faults.Scripts scripts.Limit

abbrev pub IsTold : Result Ran Fault → ℕ → Change → Type 0
IsTold (Ok (Ok score)) status faults = status ≡ lines_status score.refused
IsTold (Ok (Err e)) status faults = IsToldLast status (host_fault e) faults
IsTold (Err f) status faults = IsToldAlone status f faults

-- a host ends with an outcome of what was asked for, which is told
pub record Ends (read_fails : Known → Type 0) (known : Text → Known) (readies : Readies) (is_safe : Safety) (asked : Option Asked)
    (left end : Option Bytes) (log output faults : Change) (status : ℕ) : Type 0 where
  pub outcome : Result Ran Fault
  pub ends : AskedEnds (TaskEnds read_fails known readies is_safe left end log) asked outcome output
  pub told : IsTold outcome status faults
