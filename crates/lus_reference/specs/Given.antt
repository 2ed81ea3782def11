-- What defines a variable at an instant, and what a call passes to the node that it calls, from the entries, what is kept of the past, and
-- the rows of the called nodes.
use Rattle.std.specs.Prelude.{◌≡◌, ℕ, suc, drop, Bool, List, [], ◌∷◌, ◌++◌, Option, Some, None}
use Rattle.lus_values.specs.Values.{Value, Row}
use Rattle.lus_program.specs.Programs.{Expression, call, Operands, numbered, all_numbered, Node, Program, node_at}
use Rattle.lus_streams.specs.Clocks.{Clock, Part, formal_clock, parts, all_parts}
use Rattle.lus_streams.specs.Equations.{definition_of, node_parts}
use Rattle.lus_streams.specs.Streams.{Instant, instant, nobody, World, is_present, row_of, is_on, where_on, value, inputs_given, definition_value}
use Rattle.lus_reference.specs.Kept.{AreRowsFrom, Keeps}

-- the node that an expression calls
abbrev pub callee : Expression → Option ℕ
callee (call g c args) = Some g
callee _ = None

-- v is the value of an expression that stands at place m among these parts, whatever its calls are numbered and whatever clock it is on, at
-- each instant with these entries and rows of calls, after each past of which this is kept
abbrev pub IsValueAt : Program → (row : Row) → List Row → Expression → List Part → ℕ → (kept : Row) → Option Value → Type 0
IsValueAt p row rows e es m kept v =
    (now : Instant) (past : World) (n : ℕ) (k : Clock) (rest : List Part) → drop m es ≡ parts p (numbered n e) k ++ rest
    → row_of now ≡ row → AreRowsFrom now 0 rows → Keeps p past es kept → v ≡ value p (numbered n e) k now past

-- what formals from number m on get of the values of arguments, each where its clock is present
module _ (present : Bool) (row : Row) (clocks : ℕ → Clock) where
  abbrev pub passed : ℕ → (values : Row) → Row
  passed m [] = []
  passed m (v ∷ vs) = where_on (is_on (clocks m) (instant present row nobody)) v ∷ passed (suc m) vs

-- v is what defines variable x of node f, at each instant with these entries and rows of calls, after each past of which this is kept
abbrev pub IsDefinedAt : Program → (row : Row) → Node → ℕ → (kept : Row) → List Row → Option Value → Type 0
IsDefinedAt p row f x kept rows v =
    (now : Instant) (past : World) → row_of now ≡ row → AreRowsFrom now 0 rows → Keeps p past (node_parts p f) kept
    → v ≡ definition_value p (definition_of f x) now past

-- a call of node g with these arguments and this base, whatever they are numbered, passes these values; the parts of the arguments stand
-- from place m on among these
abbrev pub ArePassedAt : Program → Bool → (row : Row) → List Row → ℕ → Operands → Clock → List Part → ℕ → (kept : Row) → Row → Type 0
ArePassedAt p present row rows g es base all m kept vs =
    (now : Instant) (past : World) (n : ℕ) (rest : List Part) → is_present now ≡ present → row_of now ≡ row
    → drop m all ≡ all_parts p (all_numbered n es) (formal_clock (node_at p g) (all_numbered n es) base) 0 ++ rest → AreRowsFrom now 0 rows → Keeps p past all kept
    → vs ≡ inputs_given p (all_numbered n es) (node_at p g) (all_numbered n es) base 0 now past
