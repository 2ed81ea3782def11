-- Runs of a node's instance: its history is lawful, is written on in its journal, and its replies are told.
use Rattle.std.specs.Prelude.{ℕ, List, [], Option, ⊤}
use Rattle.lus_program.specs.Programs.{Program, node_at}
use Rattle.lus_requests.specs.declared.request.Request.{Request}
use Rattle.lus_requests.specs.declared.request.Entry.{Entry}
use Rattle.lus_devices.specs.Devices.{Bytes}
use Rattle.lus_bursts.specs.Syncs.{Safety}
use Rattle.lus_live_instance.specs.MachineSpecs.Constructors.{names_of}
use Rattle.lus_live_instance.specs.MachineSpecs.Formals.{outputs_of}
use Rattle.lus_live_instance.specs.MachineSpecs.HistorySpecs.Histories.{History}
use Rattle.lus_play.specs.declared.playing.Score.{Score}
use Rattle.lus_sessions.specs.Calls.{reply_line}
use Rattle.lus_sessions.specs.Sessions.{HasDriven, HasDrivenSome, Scribe}
use Rattle.lus_sessions.specs.declared.recovering.Start.{Start}

-- All lines were read up to the end: the calls among them go on in a lawful history of the node.
pub record HasRun (p : Program) (f : ℕ) (R : Bytes → Option Request → Type 0) (j : Scribe) (tells : ℕ → Entry → Bytes) (IsSafe : Safety)
    (start : Start) (left end : Option Bytes) (h : List Entry) (l l' w w' : Option Bytes) (score : Score) : Type 0 where
  pub history : List Entry
  pub lawful : History p f history
  pub driven : HasDriven R j tells IsSafe start left end h history l l' w w' score

-- Some lines were read: the calls among them go on in a lawful history of the node.
pub record HasRunSome (p : Program) (f : ℕ) (R : Bytes → Option Request → Type 0) (j : Scribe) (tells : ℕ → Entry → Bytes) (IsSafe : Safety)
    (start : Start) (left : Option Bytes) (h : List Entry) (l l' w w' : Option Bytes) : Type 0 where
  pub history : List Entry
  pub lawful : History p f history
  pub driven : HasDrivenSome R j tells IsSafe start left h history l l' w w'

-- nothing is told
abbrev pub silence : ℕ → Entry → Bytes
silence n e = []

-- the nth reply of a node as an object of JSON
abbrev pub json_says : Program → ℕ → ℕ → Entry → Bytes
json_says p f n e = reply_line p (names_of p) (outputs_of (node_at p f)) e

-- nothing is asked of a device that isn't the log of a file
abbrev pub Unasked : Safety
Unasked first text last = ⊤
