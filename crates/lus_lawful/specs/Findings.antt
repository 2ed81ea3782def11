-- What is to be found of journals that can be read back, and that it is found.
use Rattle.std.specs.Prelude.{◌≡◌, ◌≢◌, ◌⊎◌, ◌+◌, ◌++◌, ℕ, Bool, true, false, List, [], ◌∷◌, length, map, Option, Some, None, codes}
use Rattle.std.specs.List.{All, flat_map}
use Rattle.lus_values.specs.Names.{Names, Text}
use Rattle.lus_program.specs.Programs.{Program}
use Rattle.lus_requests.specs.declared.request.Reply.{Reply}
use Rattle.lus_devices.specs.Devices.{Bytes}
use Rattle.lus_asked.specs.Asked.{IsCaller}
use Rattle.lus_lines.specs.Lines.{IsPlain}
use Rattle.lus_play.specs.Plays.{entry_of}
use Rattle.lus_live_instance.specs.MachineSpecs.Constructors.{names_of}
use Rattle.lus_live_instance.specs.MachineSpecs.Formals.{node_named}
use Rattle.lus_live_instance.specs.MachineSpecs.HistorySpecs.Histories.{History}
use Rattle.lus_replay.specs.Replays.{IsFirst, IsReadable, Item, Said, Told, entry_said, items_text, line_of, said_line, saids_of}
use Rattle.lus_lawful.specs.Journals.{IsLawfulJournal, IsTail, Journal, head_of, journal_report, journal_text, line_count, tail_before, wrong_text}
use Rattle.lus_lawful.specs.declared.auditing.Turn.{Turn}
use Rattle.lus_lawful.specs.declared.auditing.Turn.TheVariants as turns

-- a journal of a node of the program that can be read back: its instance's name is one word, and each of its items can be read back
pub record IsReadableJournal (p : Program) (j : Journal) : Type 0 where
  pub node : ℕ
  pub named : node_named p j.node ≡ Some node
  pub instance : IsCaller j.instance
  pub items : All (IsReadable (names_of p)) j.items

abbrev pub texts : Program → List Journal → Text
texts p js = flat_map (journal_text (names_of p)) js

-- what is reported of an entry behind these items of a journal, which begins behind so many lines, where another reply is right
abbrev pub wrong_entry_text : Names → Text → ℕ → List Item → Said → Reply → Text
wrong_entry_text names instance lines before s right =
    wrong_text instance (lines + length before + 2) (said_line names (length (saids_of before) + 1) s)
    (line_of names s.caller (length (saids_of before) + 1) (entry_of s.request right))

-- an entry of a journal is the first whose reply isn't the right one, which is reported with it
pub record IsWrongJournal (p : Program) (lines : ℕ) (report : Text) (j : Journal) : Type 0 where
  pub node : ℕ
  pub before : List Item
  pub said : Said
  pub behind : List Item
  pub right : Reply
  pub named : node_named p j.node ≡ Some node
  pub items : j.items ≡ before ++ Told said ∷ behind
  pub lawful : History p node (map entry_said (saids_of before) ++ entry_of said.request right ∷ [])
  pub differs : said_line (names_of p) (length (saids_of before) + 1) said
      ≢ line_of (names_of p) said.caller (length (saids_of before) + 1) (entry_of said.request right)
  pub reported : report ≡ wrong_entry_text (names_of p) j.instance lines before said right

-- What is to be found of journals behind so many lines, and of what stands behind them: each is lawful, which is reported; or the first
-- that isn't has a wrong entry.
abbrev pub IsToFind : Program → ℕ → List Journal → Text → Bool → Text → Type 0
IsToFind p lines [] tail is_lawful report = (is_lawful ≡ true) × (report ≡ [])
IsToFind p lines (j ∷ js) tail is_lawful report =
    (IsLawfulJournal p j
    × ((later : Text) × IsToFind p (lines + line_count j) js tail is_lawful later × (report ≡ journal_report lines j (tail_before js tail) ++ later)))
    ⊎ ((is_lawful ≡ false) × IsWrongJournal p lines report j)

-- what is to be found of journals that can be read back is found
abbrev pub FindsAll : Program → Bool → Option Bytes → Text → Type 0
FindsAll p is_lawful left report =
    (js : List Journal) (tail : Text) → All (IsReadableJournal p) js → IsTail js tail → left ≡ Some (texts p js ++ tail)
    → (all : Bool) (text : Text) → IsToFind p 0 js tail all text → (is_lawful ≡ all) × (report ≡ text)

-- there are no journals that can be read back
abbrev pub AreNone : Program → Option Bytes → Type 0
AreNone p left = (js : List Journal) (tail : Text) → All (IsReadableJournal p) js → IsTail js tail → left ≡ Some (texts p js ++ tail) → ⊥

-- ---- one journal

-- with its line feed
abbrev pub first_line : Text → Text → Text
first_line instance node = head_of instance node ++ codes "\n"

-- behind a journal there are bytes without a line feed, or the first line of another and what is behind it
abbrev pub behind_text : Option (Text × Text) → Text → Text
behind_text None tail = tail
behind_text (Some next) tail = next.0 ++ next.1

abbrev pub IsBehind : Option (Text × Text) → Text → Type 0
IsBehind None tail = IsPlain tail
IsBehind (Some next) tail = IsFirst next.0 × (tail ≡ [])

-- it ends where no line is behind it, or the first line of the next was read
abbrev pub GoesOn : Option (Text × Text) → Turn → ℕ → Text → Option Bytes → Type 0
GoesOn None t behind line later = t ≡ turns.Last
GoesOn (Some next) t behind line later = (t ≡ turns.Next behind) × (line ≡ next.0) × (later ≡ Some next.1)

-- it was passed as lawful
pub record IsPassed (p : Program) (lines : ℕ) (j : Journal) (rest : Option (Text × Text)) (tail : Text) (t : Turn) (line : Text) (later : Option Bytes)
    (old new : Text) : Type 0 where
  pub on : GoesOn rest t (lines + line_count j) line later
  pub reported : new ≡ old ++ journal_report lines j tail
  pub right : (report : Text) → IsWrongJournal p lines report j → ⊥

-- an entry of it is wrong
pub record IsStopped (p : Program) (lines : ℕ) (j : Journal) (t : Turn) (old new : Text) : Type 0 where
  pub number : ℕ
  pub ended : t ≡ turns.Wrong number
  pub wrong : IsLawfulJournal p j → ⊥
  pub reported : (report : Text) → IsWrongJournal p lines report j → new ≡ old ++ report

-- a journal that can be read back is passed, or an entry of it is wrong
abbrev pub Finds : Turn → Program → ℕ → Text → Option Bytes → Option Bytes → Text → Text → Text → Type 0
Finds t p lines first left later line old new =
    (j : Journal) (rest : Option (Text × Text)) (tail : Text) → IsReadableJournal p j → IsBehind rest tail → first ≡ first_line j.instance j.node
    → left ≡ Some (items_text (names_of p) 0 j.items ++ behind_text rest tail)
    → IsPassed p lines j rest tail t line later old new ⊎ IsStopped p lines j t old new

-- the same behind its first line, which has these names
abbrev pub FindsBehind : Turn → Program → ℕ → Text → Text → Option Bytes → Option Bytes → Text → Text → Text → Type 0
FindsBehind t p lines instance node left later line old new =
    (j : Journal) (rest : Option (Text × Text)) (tail : Text) → IsReadableJournal p j → IsBehind rest tail → instance ≡ j.instance → node ≡ j.node
    → left ≡ Some (items_text (names_of p) 0 j.items ++ behind_text rest tail)
    → IsPassed p lines j rest tail t line later old new ⊎ IsStopped p lines j t old new

-- there is no journal that can be read back
abbrev pub IsNone : Program → Text → Option Bytes → Type 0
IsNone p first left =
    (j : Journal) (rest : Option (Text × Text)) (tail : Text) → IsReadableJournal p j → IsBehind rest tail → first ≡ first_line j.instance j.node
    → left ≡ Some (items_text (names_of p) 0 j.items ++ behind_text rest tail) → ⊥

abbrev pub IsNoneBehind : Program → Text → Text → Option Bytes → Type 0
IsNoneBehind p instance node left =
    (j : Journal) (rest : Option (Text × Text)) (tail : Text) → IsReadableJournal p j → IsBehind rest tail → instance ≡ j.instance → node ≡ j.node
    → left ≡ Some (items_text (names_of p) 0 j.items ++ behind_text rest tail) → ⊥
