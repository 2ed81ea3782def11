-- Which reasons are told of a log: of each instance those of its history, as of a journal of it, in the order of the log.
use Rattle.std.specs.Prelude.{◌≡◌, ◌++◌, ◌+◌, ℕ, Bool, true, false, List, [], ◌∷◌, length, Option, Some, None, IsTrue, string_bytes, ⊤}
use Rattle.indexmap.specs.IndexMap.{get_by_text}
use Rattle.lus_values.specs.Names.{Text}
use Rattle.lus_program.specs.Programs.{Program}
use Rattle.lus_printable.specs.Printable.{printable}
use Rattle.lus_requests.specs.declared.request.Entry.{Entry}
use Rattle.lus_requests.specs.declared.request.Reply.{Reply}
use Rattle.lus_requests.specs.declared.request.Reply.TheVariants.{Outputs, Rows, Done, Refused}
use Rattle.lus_cli.specs.MachineSpecs.Constructors.{names_of}
use Rattle.lus_cli.specs.MachineSpecs.HistorySpecs.Pasts.{lineage}
use Rattle.lus_windows.specs.Reasons.{Explains, TellsEntry}
use Rattle.lus_windows.specs.Windows.{have_slots}
use Rattle.lus_windows.specs.declared.reasons.Explainer.{Explainer}
use Rattle.lus_hosting.specs.Audits.{LogEntry, LogLine, LogNote, entries_in}
use Rattle.lus_hosting.specs.Logs.{Logged, entries_of}
use Rattle.lus_audit.specs.declared.log_reasons.Explanations.{Explanations}

-- the entries of the instance of a name in these lines
abbrev pub history_in : Text → List LogLine → List Entry
history_in name lines = entries_of name (entries_in lines)

-- An entry behind these lines has a line of its reason where it was refused: that has its instance's name, as it may be printed, and its
-- line's number in the log, and says why it was refused behind the lineage that the entries of that instance before it left.
abbrev pub TellsLogged : Program → ℕ → List LogLine → Logged → (old new : Text) → Type 0
TellsLogged p f lines l old new =
    TellsEntry p f (names_of p) (printable l.instance) (length lines + 1) (have_slots (history_in l.instance lines))
    (lineage (history_in l.instance lines)) l.said.request l.said.reply old new

-- the reasons of a log's entries, a line for each that was refused, in their order; a note has none
pub data TellsLog (p : Program) (f : ℕ) : List LogLine → Text → Type 0 where
  begins : TellsLog p f [] []
  notes : (lines : List LogLine) (t text : Text) → TellsLog p f lines text → TellsLog p f (lines ++ LogNote t ∷ []) text
  enters : (lines : List LogLine) (l : Logged) (text new : Text) → TellsLog p f lines text → TellsLogged p f lines l text new
      → TellsLog p f (lines ++ LogEntry l ∷ []) new

-- reasons of a log, where they are asked
abbrev pub AreLogReasons : Bool → Program → ℕ → Text → List LogLine → Type 0
AreLogReasons true p f text lines = TellsLog p f lines text
AreLogReasons false p f text lines = text ≡ []

abbrev pub IsRefused : Reply → Type 0
IsRefused (Refused why) = ⊤
IsRefused (Outputs o) = ⊥
IsRefused (Rows os) = ⊥
IsRefused Done = ⊥

-- ---- what is kept

abbrev pub IsFollowed : Program → ℕ → Text → List Entry → Option Explainer → Type 0
IsFollowed p f name h None = ⊤
IsFollowed p f name h (Some e) = Explains p f (printable name) h e

-- what is kept of an instance is what its entries in these lines left
abbrev pub Follows : Program → ℕ → List LogLine → (Text → Option Explainer) → Type 0
Follows p f lines named = (name : Text) → IsFollowed p f name (history_in name lines) (named name)

-- these lines were seen: the reasons are all of theirs, unless a refused entry was of an instance that isn't followed
pub record HasExplained (p : Program) (f : ℕ) (lines : List LogLine) (x : Explanations) : Type 0 where
  pub followed : Follows p f lines (get_by_text x.followed)
  pub unfollowed : Follows p f [] (get_by_text x.unfollowed)
  pub tells : IsTrue x.is_whole → TellsLog p f lines (string_bytes x.text)

-- they were, if what was kept at first of the instances that were followed was of such without entries
abbrev pub ExplainsFrom : Program → ℕ → (Text → Option Explainer) → Explanations → List LogLine → Type 0
ExplainsFrom p f named x lines = Follows p f [] named → HasExplained p f lines x
