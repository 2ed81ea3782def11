-- The value of an expression is made of the values of its operands. In the parts of a text each is followed by those in it: read from the
-- end, each stands behind its operands.
use Rattle.std.specs.Prelude.{◌≡◌, ℕ, suc, drop, map, reverse, true, false, List, [], ◌∷◌, Option, Some, None, is_some}
use Rattle.lus_values.specs.Lists.{item}
use Rattle.lus_values.specs.Operators.{apply}
use Rattle.lus_values.specs.Values.{Value, Row}
use Rattle.lus_values.specs.View.{entry_of}
use Rattle.lus_values.specs.declared.value.Value.{Value as StoredValue}
use Rattle.lus_values.specs.Entries.{is_constructor, with_operand, with_operands}
use Rattle.lus_program.specs.Programs.{Expression, literal, variable, operate, pre, arrow, when, merge, call, Operands, none, more, Program, node_at}
use Rattle.lus_streams.specs.Clocks.{Part, at}
use Rattle.lus_streams.specs.Streams.{Instant, World, row_of, value}
use Rattle.lus_parts.specs.Nested.{AreNested}
use Rattle.lus_reference.specs.Kept.{before, Keeps, AreRowsFrom}

-- how many operands an expression has
abbrev pub many : Operands → ℕ
many none = 0
many (more e es) = suc (many es)

abbrev pub width : Expression → ℕ
width (literal v) = 0
width (variable x) = 0
width (operate o es) = many es
width (pre a) = 1
width (arrow a b) = 2
width (when t a) = 1
width (merge x bs) = many bs
width (call g c args) = many args

-- the values of operands, if all have one
abbrev pub gathered : Row → Option (List Value)
gathered [] = Some []
gathered (v ∷ vs) = with_operand v (gathered vs)

-- the value of the branch of the constructor that is held, of those from constructor c on
abbrev pub held : Row → Option Value → ℕ → Option Value
held [] x c = None
held (v ∷ vs) x c = elim (is_constructor c x) [ true ↦ v | false ↦ held vs x (suc c) ]

-- an output of call c, which calls node g
abbrev pub output_in : Program → List Row → (g c n : ℕ) → Option Value
output_in p rows g c n = item None (drop (node_at p g).inputs (item [] rows c)) n

-- the value of an expression from those of its operands; `pre` and `->` also ask what is kept of the first of them
module _ (p : Program) (row : Row) (rows : List Row) where
  abbrev pub made : Expression → (operands : Row) → (last : Option Value) → Option Value
  made (literal v) vs last = Some v
  made (variable x) vs last = item None row x
  made (operate o es) vs last = with_operands (apply o) (gathered vs)
  made (pre a) vs last = before last
  made (arrow a b) vs last = elim (is_some last) [ true ↦ item None vs 1 | false ↦ item None vs 0 ]
  made (when t a) vs last = item None vs 0
  made (merge x bs) vs last = held vs (item None row x) 0
  made (call g c args) vs last = output_in p rows g c 0

-- the outermost of these parts: those that are in no other of them
abbrev pub roots : List Part → List Part
roots [] = []
roots (at k e ∷ es) = at k e ∷ drop (width e) (roots es)

abbrev pub value_in : Program → Instant → World → Part → Option Value
value_in p now past (at k e) = value p e k now past

-- these are the values of the outermost of these parts, at each instant with these entries and rows of calls, after each past of which
-- this is kept
abbrev pub AreValues : Program → (row : Row) → List Row → List Part → (kept : Row) → Row → Type 0
AreValues p row rows es kept vs =
    (now : Instant) (past : World) → row_of now ≡ row → AreRowsFrom now 0 rows → Keeps p past es kept → AreNested p es → vs ≡ map (value_in p now past) (roots es)

-- a stack, its top first
abbrev pub stack_of : List (Option StoredValue) → Row
stack_of vs = map entry_of (reverse vs)
