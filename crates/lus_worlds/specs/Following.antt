-- What variables have at an instant with these entries and rows of calls, after each past of which this is kept.
use Rattle.std.specs.Prelude.{◌≡◌, ℕ, Bool, List, Option, None, is_some}
use Rattle.lus_values.specs.Lists.{item}
use Rattle.lus_values.specs.Values.{Value, Row}
use Rattle.lus_program.specs.Programs.{Node, Program}
use Rattle.lus_streams.specs.Clocks.{clock_of}
use Rattle.lus_streams.specs.Equations.{definition_of, node_parts}
use Rattle.lus_streams.specs.Streams.{Instant, instant, nobody, World, row_of, is_on, where_on, definition_value}
use Rattle.lus_reference.specs.Kept.{AreRowsFrom, Keeps}

-- v is what its equation gives for variable x, where its clock is present
abbrev pub IsMeant : Program → (row : Row) → Node → ℕ → Bool → (kept : Row) → List Row → Option Value → Type 0
IsMeant p row f x on kept rows v =
    (now : Instant) (past : World) → row_of now ≡ row → AreRowsFrom now 0 rows → Keeps p past (node_parts p f) kept
    → v ≡ where_on on (definition_value p (definition_of f x) now past)

-- input x has an entry where its clock is present, and only there
abbrev pub IsGiven : Bool → (row : Row) → Node → ℕ → Type 0
IsGiven present row f x = is_some (item None row x) ≡ is_on (clock_of f x) (instant present row nobody)
