-- Audits of a log of many instances: what the words ask for, and how they end.
use Rattle.std.specs.Prelude.{◌≡◌, ◌⊎◌, ◌++◌, ℕ, Bool, List, Option, Some, None, Result, codes, ⊤}
use Rattle.clap.specs.Words.{App, Row, first_of}
use Rattle.lus_program.specs.Programs.{Program}
use Rattle.lus_devices.specs.Devices.{Bytes}
use Rattle.lus_devices.specs.Folders.{Known, WithFile}
use Rattle.lus_scripts.specs.declared.refusal.ScriptRefusal.TheVariants as scripts
use Rattle.lus_cli.specs.HostSpecs.Sources.{ProgramRefused}
use Rattle.lus_cli.specs.MachineSpecs.Formals.{node_named}
use Rattle.lus_cli.specs.Changes.{Change}
use Rattle.lus_cli.specs.CommandLine.{Text, asked_of, bare, is_set, with_flag, with_required}
use Rattle.lus_cli.specs.Ends.{IsLost, SaysEnds}
use Rattle.lus_cli.specs.declared.fault.Fault.{Fault}
use Rattle.lus_cli.specs.declared.fault.Fault.TheVariants as faults
use Rattle.lus_hosting.specs.Audits.{FindsInLog, HasAuditedLog, IsNoLog, LogLine}
use Rattle.lus_audit.specs.Ends.{IsOfFile}
use Rattle.lus_audit.specs.LogReasons.{AreLogReasons}
use Rattle.lus_audit.specs.declared.log_words.LogTask.{LogTask}

-- ---- words

-- the flags `--many` and `--why`, a required PROGRAM, a required NODE and a required LOG
abbrev pub the_command : App
the_command =
    with_required (codes "LOG") (with_required (codes "NODE") (with_required (codes "PROGRAM")
    (with_flag (codes "why") (with_flag (codes "many") (bare (codes "lus_audit"))))))

-- a log of instances of a node of a program, and whether reasons of refusals are asked
pub record Asked : Type 0 where
  pub is_why : Bool
  pub program : Text
  pub node : Text
  pub log : Text

abbrev pub chosen : Bool → Option Text → Option Text → Option Text → Option Asked
chosen is_why None _ _ = None
chosen is_why (Some program) None _ = None
chosen is_why (Some program) (Some node) None = None
chosen is_why (Some program) (Some node) (Some log) = Some (record { is_why = is_why; program = program; node = node; log = log })

abbrev pub said : List Row → Option Asked
said m = chosen (is_set (codes "why") m) (first_of (codes "PROGRAM") m) (first_of (codes "NODE") m) (first_of (codes "LOG") m)

-- what the words after the program's own name ask for, where they are well formed
unfoldable pub asked : List Text → Option Asked
asked = asked_of the_command said

-- a task as plain data
abbrev pub task_seen : LogTask → Asked
task_seen t = record { is_why = t.is_why; program = t.program.now; node = t.node.now; log = t.log.now }

-- ---- how an audit ends

-- what is found of a log's bytes, whose lines were seen, is so, and of one that can be read back what is to be found is found
abbrev pub IsLogFound : Program → ℕ → (List LogLine → Type 0) → Bool → Text → Bytes → Type 0
IsLogFound p f Seen is_lawful report bytes = HasAuditedLog p f Seen is_lawful (Some bytes) report × FindsInLog p f is_lawful (Some bytes) report

-- It is reported, with the reasons of the refusals behind it where they are asked: those up to the first line that isn't right, with the one
-- of the right reply in its place.
pub record IsLogReported (p : Program) (f : ℕ) (is_why is_lawful : Bool) (report : Text) (bytes : Bytes) : Type 0 where
  pub found : Text
  pub reasons : Text
  pub is : IsLogFound p f (AreLogReasons is_why p f reasons) is_lawful found bytes
  pub reported : report ≡ found ++ reasons

-- the log of a file is audited by the node of this name of another's program
pub record IsLogAudited (file log : Known) (name : Text) (is_why is_lawful : Bool) (report : Text) : Type 0 where
  pub program : Program
  pub accepted : IsOfFile file program
  pub node : ℕ
  pub named : node_named program name ≡ Some node
  pub found : WithFile log (IsLogReported program node is_why is_lawful report)

-- why nothing is found of a log with the node of a program: its file is lost, or has a line that is none of a log, and so no log that can
-- be read back; or out of memory
abbrev pub LogIsLost : Program → Known → Fault → Type 0
LogIsLost p log faults.File = ⊤
LogIsLost p log (faults.Journal n) = WithFile log (λ bytes. IsNoLog p (Some bytes))
LogIsLost p log faults.Memory = ⊤
LogIsLost p log (faults.Program e) = ⊥
LogIsLost p log (faults.Signal n) = ⊥
LogIsLost p log (faults.Scripts e) = ⊥
LogIsLost p log faults.Words = ⊥
LogIsLost p log faults.Output = ⊥
LogIsLost p log faults.Start = ⊥

-- why nothing is found: the program's file is lost, it is refused, or it lacks the node; or it is accepted, and the log's file is lost, or
-- has a line that is none of a log, and so no log that can be read back; or out of memory
abbrev pub LogAuditFails : (Known → Type 0) → Known → Known → Text → Fault → Type 0
LogAuditFails read_fails file log name faults.File = IsLost read_fails file ⊎ ((p : Program) × IsOfFile file p)
LogAuditFails read_fails file log name (faults.Program e) = WithFile file (λ text. ProgramRefused text e)
LogAuditFails read_fails file log name (faults.Scripts e) = (e ≡ scripts.Unknown) × ((p : Program) × IsOfFile file p × (node_named p name ≡ None))
LogAuditFails read_fails file log name (faults.Journal n) = (p : Program) × IsOfFile file p × WithFile log (λ bytes. IsNoLog p (Some bytes))
LogAuditFails read_fails file log name (faults.Signal n) = ⊥
LogAuditFails read_fails file log name faults.Memory = ⊤
LogAuditFails read_fails file log name faults.Words = ⊥
LogAuditFails read_fails file log name faults.Output = ⊥
LogAuditFails read_fails file log name faults.Start = ⊥

-- what is reported is written; where nothing is found, nothing is
abbrev pub LogTaskEnds : (Known → Type 0) → (Text → Known) → Asked → Result Bool Fault → Change → Type 0
LogTaskEnds read_fails known asked =
    SaysEnds (λ is_lawful report. IsLogAudited (known asked.program) (known asked.log) asked.node asked.is_why is_lawful report)
    (LogAuditFails read_fails (known asked.program) (known asked.log) asked.node)
