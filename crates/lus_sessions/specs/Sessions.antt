-- Runs that go on behind what a journal has: its further entries, and what is told of them.
use Rattle.std.specs.Prelude.{◌≡◌, ◌⊎◌, ◌+◌, ◌++◌, ℕ, List, [], ◌∷◌, length, Option}
use Rattle.lus_values.specs.Names.{Names, Text}
use Rattle.lus_requests.specs.declared.request.Request.{Request}
use Rattle.lus_requests.specs.declared.request.Entry.{Entry}
use Rattle.lus_devices.specs.Devices.{Bytes, WritesBeginning, with_text}
use Rattle.lus_devices.specs.Journals.{count_text, line_text}
use Rattle.lus_bursts.specs.Syncs.{Safety}
use Rattle.lus_play.specs.Plays.{AsksAll, AsksSome, HasWhole, IsKept, texts}
use Rattle.lus_play.specs.declared.playing.Score.{Score}
use Rattle.lus_sessions.specs.Recoveries.{entries_at, start_text}
use Rattle.lus_sessions.specs.declared.recovering.Start.{Start}

-- how a journal is written on: what is missing where a run goes on, the line of the nth entry, and the last line behind so many
pub record Scribe : Type 0 where
  pub starts : Start → Bytes
  pub says : ℕ → Entry → Bytes
  pub ends : ℕ → Bytes

abbrev pub scribe_of : (Start → Bytes) → (ℕ → Entry → Bytes) → (ℕ → Bytes) → Scribe
scribe_of starts says ends = record { starts = starts; says = says; ends = ends }

-- by nothing
abbrev pub no_journal : Scribe
no_journal = scribe_of (λ start. []) (λ n e. []) (λ n. [])

-- whom a journal names: the instance, like its node, and its one caller
pub record Parties : Type 0 where
  pub node : Text
  pub caller : Text

-- as the journal that names them
abbrev pub journal_lines : Names → Parties → Scribe
journal_lines names who = scribe_of (start_text who.node) (line_text names (who.caller ∷ [])) count_text

-- what is written on in a journal of further entries
abbrev pub begun : Scribe → Start → List Entry → Bytes
begun j start es = j.starts start ++ texts j.says (entries_at start + 1) es

-- and behind the last
abbrev pub added : Scribe → Start → List Entry → Bytes
added j start es = begun j start es ++ j.ends (entries_at start + length es)

-- what is told of further entries
abbrev pub replies : (ℕ → Entry → Bytes) → Start → List Entry → Bytes
replies tells start es = texts tells (entries_at start + 1) es

-- All lines were read up to the end. The calls among them are new in the history, are written on in the journal, and their replies are
-- written; the log is safe with all that is told.
pub record HasDriven (R : Bytes → Option Request → Type 0) (j : Scribe) (tells : ℕ → Entry → Bytes) (IsSafe : Safety) (start : Start)
    (left end : Option Bytes) (h h' : List Entry) (l l' w w' : Option Bytes) (score : Score) : Type 0 where
  pub entries : List Entry
  pub asks : AsksAll R left end entries score
  pub entered : h' ≡ h ++ entries
  pub logged : l' ≡ with_text l (added j start entries)
  pub told : w' ≡ with_text w (replies tells start entries)
  pub kept : IsKept (begun j start) (replies tells start) IsSafe entries l l' w w'

-- Some lines were read. The calls among them are new in the history, and of what is to be written of them in the journal a beginning is. Some
-- of them are told, whose lines the journal has whole behind what was missing in it, and is safe with: of their replies a beginning is written.
pub record HasDrivenSome (R : Bytes → Option Request → Type 0) (j : Scribe) (tells : ℕ → Entry → Bytes) (IsSafe : Safety) (start : Start)
    (left : Option Bytes) (h h' : List Entry) (l l' w w' : Option Bytes) : Type 0 where
  pub told : List Entry
  pub rest : List Entry
  pub asks : AsksSome R left (told ++ rest)
  pub entered : h' ≡ h ++ (told ++ rest)
  pub logged : WritesBeginning l l' (added j start (told ++ rest))
  pub whole : (told ≡ []) ⊎ HasWhole l l' (begun j start told)
  pub safe : (told ≡ []) ⊎ IsSafe l (begun j start told) l'
  pub replied : WritesBeginning w w' (replies tells start told)
