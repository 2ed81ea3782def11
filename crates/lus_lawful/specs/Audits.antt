-- What an audit of journals finds and reports.
use Rattle.std.specs.Prelude.{◌≡◌, ◌≢◌, ◌+◌, ◌++◌, ℕ, List, [], ◌∷◌, length, Option, Some, None}
use Rattle.std.specs.List.{All, flat_map, sum_by}
use Rattle.lus_values.specs.Names.{Text}
use Rattle.lus_program.specs.Programs.{Program}
use Rattle.lus_requests.specs.declared.request.Entry.{Entry}
use Rattle.lus_devices.specs.Devices.{Bytes, with_front}
use Rattle.lus_lines.specs.Lines.{IsLast}
use Rattle.lus_live_instance.specs.MachineSpecs.Acceptance.{IsAccepted}
use Rattle.lus_live_instance.specs.MachineSpecs.Constructors.{names_of}
use Rattle.lus_live_instance.specs.MachineSpecs.Formals.{node_named}
use Rattle.lus_live_instance.specs.MachineSpecs.HistorySpecs.Histories.{History}
use Rattle.lus_replay.specs.Replays.{BeginsAsked, HasReplayed, IsItem, ReadsBack, Said, entry_said, said_line, saids_of}
use Rattle.lus_replay.specs.declared.replaying.Replayed.{Replayed}
use Rattle.lus_lawful.specs.Journals.{IsLawfulJournal, IsTail, Journal, entries_of, journal_report, journal_text, line_count, reports, wrong_text}
use Rattle.lus_lawful.specs.declared.auditing.Turn.{Turn}
use Rattle.lus_lawful.specs.declared.auditing.Turn.TheVariants as turns

-- ---- what observers gather

-- these journals are gathered behind those before them
pub record Gathers (Old New : List Journal → Type 0) (js : List Journal) : Type 0 where
  pub behind : (before : List Journal) → Old before → New (before ++ js)

-- ---- what is found

-- lawful journals were read, of so many lines; each is reported, with what stands behind the last, and they were gathered
pub record AreLawful (p : Program) (Gathered : List Journal → Type 0) (tail : Text) (left later : Option Bytes) (lines : ℕ) (report : Text)
    : Type 0 where
  pub journals : List Journal
  pub lawful : All (IsLawfulJournal p) journals
  pub gathered : Gathered journals
  pub tailed : IsTail journals tail
  pub read : left ≡ with_front (flat_map (journal_text (names_of p)) journals) later
  pub counted : lines ≡ sum_by line_count journals
  pub reported : report ≡ reports 0 journals tail

-- Behind so many lines a journal was begun, whose entries are right up to a line of a request, the nth of all. That line isn't the
-- right one, which is reported with it.
pub record HasWrong (p : Program) (n : ℕ) (left later : Option Bytes) (lines : ℕ) (report : Text) : Type 0 where
  pub before : Journal
  pub node : ℕ
  pub line : Text
  pub right : Said
  pub named : node_named p before.node ≡ Some node
  pub plain : All IsItem before.items
  pub read : left ≡ with_front (journal_text (names_of p) before ++ line) later
  pub asked : BeginsAsked (names_of p) right.caller (length (saids_of before.items) + 1) right.request line
  pub lawful : History p node (entries_of before ++ entry_said right ∷ [])
  pub differs : line ≢ said_line (names_of p) (length (saids_of before.items) + 1) right
  pub number : n ≡ lines + line_count before + 1
  pub reported : report ≡ wrong_text before.instance n line (said_line (names_of p) (length (saids_of before.items) + 1) right)

-- the journals are lawful up to the end, or up to one whose wrong line is the nth of all
abbrev pub HasAudited : Program → (List Journal → Type 0) → Option ℕ → Option Bytes → Text → Type 0
HasAudited p Gathered None left report =
    (tail : Text) × (mid end : Option Bytes) × (lines : ℕ) × AreLawful p Gathered tail left mid lines report × IsLast tail mid end
HasAudited p Gathered (Some n) left report =
    (mid later : Option Bytes) × (lines : ℕ) × (lawful wrong : Text) × AreLawful p Gathered [] left mid lines lawful
    × HasWrong p n mid later lines wrong × (report ≡ lawful ++ wrong)

-- ---- one journal

-- What was replayed on a new instance of a node of an accepted program is its lawful history, which was observed, and all of it where
-- it can be read back.
pub record HasReplayedLawfully (p : Program) (f : ℕ) (Seen : List Entry → Type 0) (r : Replayed) (left later : Option Bytes) (line right : Text)
    : Type 0 where
  pub history : List Entry
  pub accepted : IsAccepted p
  pub lawful : History p f history
  pub seen : Seen history
  pub replayed : HasReplayed (names_of p) r left later [] history line right
  pub back : ReadsBack (names_of p) r left later [] history line right

-- a lawful journal was read, up to the line so far, and is reported with what stands behind it
pub record IsReported (p : Program) (Gathered : List Journal → Type 0) (tail : Text) (lines behind : ℕ) (left later : Option Bytes) (old new : Text)
    : Type 0 where
  pub journal : Journal
  pub lawful : IsLawfulJournal p journal
  pub gathered : Gathered (journal ∷ [])
  pub read : left ≡ with_front (journal_text (names_of p) journal) later
  pub counted : behind ≡ lines + line_count journal
  pub reported : new ≡ old ++ journal_report lines journal tail

-- what was found of a journal, and what is reported of it
abbrev pub TurnIs : Turn → Program → (List Journal → Type 0) → ℕ → Option Bytes → Option Bytes → Text → Text → Text → Type 0
TurnIs (turns.Next behind) p Gathered lines left later line old new = IsReported p Gathered [] lines behind left (with_front line later) old new
TurnIs turns.Last p Gathered lines left later line old new =
    (behind : ℕ) × (tail : Text) × (mid : Option Bytes) × IsReported p Gathered tail lines behind left mid old new × IsLast tail mid later
TurnIs (turns.Wrong n) p Gathered lines left later line old new =
    (wrong : Text) × HasWrong p n left later lines wrong × (new ≡ old ++ wrong) × Gathered []
