-- What is kept of the past of a node: of each part of its text the value that it had at the last instant at which its clock was
-- present. With the entries of an instant and what the calls give at it, that is all that an expression's value rests on.
use Rattle.std.specs.Prelude.{◌≡◌, ℕ, ◌+◌, Bool, drop, true, false, List, [], ◌∷◌, Option, Some, None}
use Rattle.lus_values.specs.Lists.{item}
use Rattle.lus_values.specs.Values.{Value, nil, Row}
use Rattle.lus_program.specs.Programs.{Program}
use Rattle.lus_streams.specs.Clocks.{Part, at}
use Rattle.lus_streams.specs.Streams.{Instant, World, is_present, row_of, called_instant, is_on, at_last, value, HasValue}

-- what `pre` gives where its operand was this at the last instant of the clock, or where there was none
abbrev pub before : Option Value → Option Value
before None = Some nil
before (Some v) = Some v

module _ (p : Program) where
  -- the value that a part had at the last instant at which its clock was present
  abbrev pub latest : Part → World → Option Value
  latest (at k e) past = at_last k past None (λ i earlier. value p e k i earlier)

  -- a part had a value wherever its clock was present
  abbrev pub HadValue : Part → World → Type 0
  HadValue e [] = Unit {0}
  HadValue e (i ∷ past) = HasValue p e i past × HadValue e past

  -- these values are kept of parts, none of which was at fault
  abbrev pub Keeps : World → List Part → Row → Type 0
  Keeps past [] kept = Unit {0}
  Keeps past (e ∷ es) kept = (item None kept 0 ≡ latest e past) × HadValue e past × Keeps past es (drop 1 kept)

-- what is kept of parts behind an instant: their values where their clocks are present, elsewhere what was kept
abbrev pub renewed : Program → Instant → World → List Part → Row → Row
renewed p now past [] kept = []
renewed p now past (at k e ∷ es) kept = elim (is_on k now) [ true ↦ value p e k now past | false ↦ item None kept 0 ] ∷ renewed p now past es (drop 1 kept)

-- these are the rows of the calls of an instant from number n on
abbrev pub AreRowsFrom : Instant → ℕ → List Row → Type 0
AreRowsFrom now n rows = (m : ℕ) → item [] rows m ≡ row_of (called_instant (n + m) now)

-- what is kept of a part behind an instant, from its value and what was kept
abbrev pub kept_next : Bool → Option Value → Option Value → Option Value
kept_next on v last = elim on [ true ↦ v | false ↦ last ]

-- an instant after a past: whether its base is present, its entries and the rows of its calls, and what is kept of parts
pub record StandsAt (p : Program) (present : Bool) (row : Row) (rows : List Row) (es : List Part) (kept : Row) (now : Instant) (past : World) : Type 0 where
  pub base : is_present now ≡ present
  pub entries : row_of now ≡ row
  pub called : AreRowsFrom now 0 rows
  pub keeps : Keeps p past es kept

module _ (p : Program) (present : Bool) (row : Row) (rows : List Row) (es : List Part) (kept : Row) where
  -- this is kept of the parts behind each such instant
  abbrev pub DoesRenew : Row → Type 0
  DoesRenew next = (now : Instant) (past : World) → StandsAt p present row rows es kept now past → next ≡ renewed p now past es kept
