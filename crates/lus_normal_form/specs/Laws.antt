-- Laws of the normal form of a program.
use Rattle.std.specs.Prelude.{◌≡◌, ℕ, List, [], ◌∷◌, length, take}
use Rattle.lus_values.specs.Lists.{Each}
use Rattle.lus_values.specs.Values.{Row}
use Rattle.lus_program.specs.Programs.{Node, Program, node_at}
use Rattle.lus_streams.specs.Clocks.{Clock, clock_of, Part, at}
use Rattle.lus_streams.specs.Equations.{node_parts, Site, sites}
use Rattle.lus_streams.specs.OnClock.{IsOnClocks, ProgramOnClocks}
use Rattle.lus_streams.specs.Streams.{Instant, instant, Called, nobody, also, World, Satisfies, Streams}
use Rattle.lus_streams.specs.Order.{HasOrder}
use Rattle.lus_program.specs.Resolved.{Resolved}
use Rattle.lus_normal_form.specs.Named.{AreNamed}
use Rattle.lus_normal_form.specs.NormalNodes.{IsNormalNode, IsNormalOf, IsSimpleNode}

module _ (p : Program) where
  -- an instant of the normal form without the variables that node f of p doesn't have, called nodes inside
  abbrev mutual
    pub without : Instant → ℕ → Instant
    without (instant b row js) f = instant b (take (length (node_at p f).variables) row) (without_called js (sites p (node_at p f)))

    pub without_called : Called → List Site → Called
    without_called nobody ss = nobody
    without_called (also j js) [] = nobody
    without_called (also j js) (s ∷ ss) = also (without j s.node) (without_called js ss)

  -- a world of the normal form without the new variables
  abbrev pub world_without : ℕ → World → World
  world_without f [] = []
  world_without f (i ∷ w) = without i f ∷ world_without f w

-- a world of the source is one of the normal form without the new variables, and each of those is one of the source; so
-- are streams for a list of inputs
pub record KeepsWorlds (p p' : Program) : Type 0 where
  pub to : (f : ℕ) (w : World) → Satisfies p f w → (w' : World) × Satisfies p' f w' × (world_without p f w' ≡ w)
  pub from : (f : ℕ) (w' : World) → Satisfies p' f w' → Satisfies p f (world_without p f w')
  pub streams_to : (f : ℕ) (inputs : List Row) (w : World) → Streams p f inputs w → (w' : World) × Streams p' f inputs w' × (world_without p f w' ≡ w)
  pub streams_from : (f : ℕ) (inputs : List Row) (w' : World) → Streams p' f inputs w' → Streams p f inputs (world_without p f w')

-- a named program and its normal form have the same worlds, new variables aside
abbrev pub NormalKeepsWorlds : Type 0
NormalKeepsWorlds = (p p' : Program) (new_parts : ℕ → List Part) → AreNamed p → IsNormalOf p p' new_parts → KeepsWorlds p p'

-- from a causal order of a node on clocks there is one of its normal form
abbrev pub NormalHasOrder : Type 0
NormalHasOrder =
    (p p' : Program) (new_parts : ℕ → List Part) → AreNamed p → IsNormalOf p p' new_parts
    → (f : ℕ) → IsOnClocks p (node_at p f) → HasOrder (node_at p f) → HasOrder (node_at p' f)

-- the normal form of a resolved program on clocks is on clocks
abbrev pub NormalIsOnClocks : Type 0
NormalIsOnClocks = (p p' : Program) (new_parts : ℕ → List Part) → Resolved p → ProgramOnClocks p → IsNormalOf p p' new_parts → ProgramOnClocks p'

-- operands in a normal form are literals or variables, and calls are whole right sides
abbrev pub NormalIsSimple : Type 0
NormalIsSimple = (p p' : Program) (f f' : Node) (new_parts : List Part) → IsNormalNode p p' f f' new_parts → IsSimpleNode f'

-- each test of a clock comes after the clock of its variable: a variable with the newest test alone is on the whole clock
abbrev pub IsChain : Node → Clock → Type 0
IsChain f [] = Unit {0}
IsChain f (t ∷ k) = (clock_of f t.variable ≡ k) × IsChain f k

-- the clock of a part is such
abbrev pub IsOnChain : Node → Part → Type 0
IsOnChain f (at k e) = IsChain f k

-- one test suffices to declare a variable on the clock of any part
abbrev pub OneTestSuffices : Type 0
OneTestSuffices = (p : Program) → ProgramOnClocks p → Each (λ f. Each (IsOnChain f) (node_parts p f)) p.nodes

-- what a normal form relies on holds of each resolved program on clocks
abbrev pub ResolvedAreNamed : Type 0
ResolvedAreNamed = (p : Program) → Resolved p → ProgramOnClocks p → AreNamed p
