-- Tables of comma-separated values whose records are played: under a head of columns, below which the outputs are told as records.
use Rattle.std.specs.Prelude.{◌++◌, ◌≡◌, ◌⊎◌, ℕ, List, Option, Some, None}
use Rattle.lus_values.specs.Names.{Text}
use Rattle.lus_program.specs.Programs.{Program, node_at}
use Rattle.lus_requests.specs.declared.request.Request.{Request}
use Rattle.lus_requests.specs.declared.request.Entry.{Entry}
use Rattle.lus_devices.specs.Devices.{Bytes, WritesBeginning, with_text}
use Rattle.lus_bursts.specs.Syncs.{Safety}
use Rattle.lus_live_instance.specs.MachineSpecs.Constructors.{names_of}
use Rattle.lus_live_instance.specs.MachineSpecs.Formals.{inputs_of, outputs_of}
use Rattle.lus_play.specs.declared.playing.Score.{Score}
use Rattle.lus_records.specs.Columns.{all_columns}
use Rattle.lus_records.specs.Heads.{HasReadHead}
use Rattle.lus_records.specs.Outputs.{outputs_head, reply_record}
use Rattle.lus_records.specs.Records.{step_in}
use Rattle.lus_sessions.specs.Sessions.{Scribe}
use Rattle.lus_sessions.specs.declared.recovering.Start.{Start}
use Rattle.lus_live.specs.Runs.{HasRun, HasRunSome}

-- the line is this step of the node under a head, whose cells below outputs are passed over, or it is none
abbrev pub IsStepUnder : Program → ℕ → List Text → Bytes → Option Request → Type 0
IsStepUnder p f head line o = o ≡ step_in p (names_of p) (inputs_of (node_at p f)) head line

-- the record of a reply of the node
abbrev pub record_says : Program → ℕ → ℕ → Entry → Text
record_says p f n e = reply_record p (names_of p) (outputs_of (node_at p f)) e.reply

-- the record of the names of its outputs' columns
abbrev pub head_says : Program → ℕ → Text
head_says p f = outputs_head p (outputs_of (node_at p f))

-- the columns of the node's inputs and outputs
abbrev pub node_columns : Program → ℕ → List Text
node_columns p f = all_columns p (inputs_of (node_at p f)) ++ all_columns p (outputs_of (node_at p f))

-- the first line was read, which is this head of such columns, or it is none
abbrev pub HasHead : Program → ℕ → Option Bytes → Option Bytes → Option (List Text) → Type 0
HasHead p f left later head = HasReadHead (node_columns p f) left later head

-- The first line is a head, and all lines below it were read up to the end as steps. The head of the outputs is written, and a record for each
-- entry.
pub record HasTold (p : Program) (f : ℕ) (j : Scribe) (IsSafe : Safety) (start : Start) (left end : Option Bytes) (h : List Entry)
    (l l' w w' : Option Bytes) (score : Score) : Type 0 where
  pub head : List Text
  pub later : Option Bytes
  pub headed : HasHead p f left later (Some head)
  pub begun : Option Bytes
  pub wrote : begun ≡ with_text w (head_says p f)
  pub run : HasRun p f (IsStepUnder p f head) j (record_says p f) IsSafe start later end h l l' begun w' score

-- The first line is a head, and some lines below it were read as steps.
pub record HasToldSome (p : Program) (f : ℕ) (j : Scribe) (IsSafe : Safety) (start : Start) (left : Option Bytes) (h : List Entry)
    (l l' w w' : Option Bytes) : Type 0 where
  pub head : List Text
  pub later : Option Bytes
  pub headed : HasHead p f left later (Some head)
  pub begun : Option Bytes
  pub wrote : begun ≡ with_text w (head_says p f)
  pub run : HasRunSome p f (IsStepUnder p f head) j (record_says p f) IsSafe start later h l l' begun w'

-- the one line that was read is refused
abbrev pub headless : Score
headless = record { entered = 0; refused = 1 }

-- The first line is no head, or there is none: nothing is written.
pub record IsHeadless (p : Program) (f : ℕ) (left end l l' w w' : Option Bytes) (score : Score) : Type 0 where
  pub headed : HasHead p f left end None
  pub logged : l' ≡ l
  pub wrote : w' ≡ w
  pub counted : score ≡ headless

-- The first line is a head, and of the outputs' a beginning is written alone.
pub record HasBegun (p : Program) (f : ℕ) (left l l' w w' : Option Bytes) : Type 0 where
  pub head : List Text
  pub later : Option Bytes
  pub headed : HasHead p f left later (Some head)
  pub logged : l' ≡ l
  pub wrote : WritesBeginning w w' (head_says p f)

-- a table was told, or it has no head
abbrev pub HasToldTable : Program → ℕ → Scribe → Safety → Start → (left end : Option Bytes) → List Entry → (l l' w w' : Option Bytes) → Score → Type 0
HasToldTable p f j IsSafe start left end h l l' w w' score =
    HasTold p f j IsSafe start left end h l l' w w' score ⊎ IsHeadless p f left end l l' w w' score

-- some of it was, or its head alone was begun, or nothing is written
abbrev pub HasToldTableSome : Program → ℕ → Scribe → Safety → Start → (left : Option Bytes) → List Entry → (l l' w w' : Option Bytes) → Type 0
HasToldTableSome p f j IsSafe start left h l l' w w' =
    HasToldSome p f j IsSafe start left h l l' w w' ⊎ HasBegun p f left l l' w w' ⊎ ((l' ≡ l) × (w' ≡ w))
