-- The texts that C is told.
use Rattle.std.specs.Prelude.{◌≡◌, ◌==◌, ◌+◌, ℕ, true, List, Option, Some, None, IsTrue, length, nat_lt, slice_get, if◌then◌else◌}
use Rattle.std.specs.Option.{option_map}
use Rattle.std.specs.List.{list_all, slice_split}
use Rattle.std.specs.Arc.{arc_value}
use Rattle.lus_syntax.specs.Lexemes.{Text}
use Rattle.lus_values.specs.Values.{Row}
use Rattle.lus_program.specs.Programs.{Program, Node}
use Rattle.lus_devices.specs.Journals.{Journal, row_text, line_text, journal_text}
use Rattle.lus_asked.specs.Asked.{is_unbroken}
use Rattle.lus_leaves.specs.declared.leaf.Leaf.{Leaf}
use Rattle.lus_leaves.specs.Fits.{RowFits}
use Rattle.lus_leaves.specs.Leaves.{row_leaves}
use Rattle.lus_leaves.specs.Writing.{over}
use Rattle.lus_shared.specs.CodeSpecs.Codes.{program_of}
use Rattle.lus_shared.specs.MachineSpecs.Constructors.{names_of}
use Rattle.lus_c.specs.Served.{IsNone, IsValue}
use Rattle.lus_c.specs.Queries.{IsHandle}
use Rattle.lus_foreign.specs.declared.seat_group.ClosedNode.{ClosedNode}
use Rattle.lus_foreign.specs.declared.content.Content.{Content as ContentType}
use Rattle.lus_foreign.specs.declared.content.Content.TheVariants.{Journal as IsJournal}

-- the number MEMORY
abbrev pub IsMemory : ℕ → Type 0
IsMemory n = IsTrue (n == 2)

-- this holds of the journal behind the handle; where there is none C is answered HANDLE
abbrev pub OfHeldJournal : Option ContentType → ℕ → (ClosedNode → Type 0) → Type 0
OfHeldJournal (Some (IsJournal c)) status P = P c
OfHeldJournal _ status P = IsHandle status

-- a text goes into an array that has room for it, and otherwise the array stays as it is
abbrev pub text_status : (text olds : Text) → ℕ
text_status text olds = if nat_lt (length olds) (length text) then 7 else 0

abbrev pub with_text : (text olds : Text) → Text
with_text text olds = if nat_lt (length olds) (length text) then olds else over olds text

-- C is told the text, and its length in any case
pub record TextIsTold (text : Text) (status bytes : ℕ) (olds news : Text) : Type 0 where
  pub answered : status ≡ text_status text olds
  pub counted : bytes ≡ length text
  pub written : news ≡ with_text text olds

-- or that there is none
abbrev pub FoundIsTold : Option Text → (status bytes : ℕ) → (olds news : Text) → Type 0
FoundIsTold None status bytes olds news = IsNone status
FoundIsTold (Some text) status bytes olds news = TextIsTold text status bytes olds news

-- the text of the row that has these leaves, or that none has them
pub record RowIsTold (p : Program) (leaves : List Leaf) (status bytes : ℕ) (olds news : Text) : Type 0 where
  pub told : (row : Row) → RowFits row → row_leaves row ≡ leaves → TextIsTold (row_text (names_of p) row) status bytes olds news
  pub none : ((row : Row) → RowFits row → row_leaves row ≡ leaves → ⊥) → IsValue status

-- names that journals are read back with: each is one word, without a blank or a line feed
abbrev pub AreWords : Text → Type 0
AreWords names = list_all is_unbroken names ≡ true

-- the names in a text that has a 0 behind each
abbrev pub names_behind : Text → List Text
names_behind text = slice_split (λ b. b == 0) text

-- the program of an instance that was closed
abbrev pub closed_program : ClosedNode → Program
closed_program c = program_of (arc_value c.program)

-- its journal, of this node
abbrev pub closed_journal : (instance : Text) → ClosedNode → Node → Journal
closed_journal instance c f = record { instance = instance; node = f.name; entries = c.entries.items }

-- the text of its journal, and the line in it of the entry at a place from 0
abbrev pub closed_text : (instance : Text) (callers : List Text) → ClosedNode → Option Text
closed_text instance callers c =
    let p = closed_program c in
    option_map (λ f. journal_text (names_of p) callers (closed_journal instance c f)) (slice_get p.nodes c.kind.0)

abbrev pub closed_line : (callers : List Text) → ClosedNode → ℕ → Option Text
closed_line callers c place =
    option_map (line_text (names_of (closed_program c)) callers (place + 1)) (slice_get c.entries.items place)
