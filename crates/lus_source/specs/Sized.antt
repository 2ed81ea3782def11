-- The limits of a source: counts, and what counts only where nothing leads back to itself.
use Rattle.std.specs.Prelude.{◌≡◌, ◌<◌, ◌≤◌, ℕ, suc, true, false, List, [], ◌∷◌, length, sum_by, nat_lt}
use Rattle.lus_syntax.specs.Limits.{most_calls_deep, most_constructors, most_declarations, most_fields, most_leaves, most_nesting, most_variables}
use Rattle.lus_syntax.specs.Trees.{Fields, Definition, Alias, Enumeration, StructureOf, Group, Tree}
use Rattle.lus_values.specs.Lists.{item, Each, Below}
use Rattle.lus_graph.specs.Along.{IsLocal, within}
use Rattle.lus_graph.specs.Ways.{Uses, used}
use Rattle.lus_program.specs.Programs.{Declared, structure}
use Rattle.lus_program.specs.Kinds.{nothing_declared}
use Rattle.lus_program.specs.Leaves.{declared_leaves}
use Rattle.lus_program.specs.Sound.{declared_uses}
use Rattle.lus_source.specs.Tables.{groups}
use Rattle.lus_source.specs.Loopless.{node_uses}
use Rattle.lus_source.specs.Meaning.{program_of}

abbrev pub field_count : List Fields → ℕ
field_count fs = sum_by (λ g. length g.names) fs

abbrev pub variable_count : List Group → ℕ
variable_count gs = sum_by (λ g. length g.names) gs

-- a structure has at least one field: the grammar lets no other be written
abbrev pub DefinitionCounted : Definition → Type 0
DefinitionCounted (Alias y) = Unit {0}
DefinitionCounted (Enumeration cs) = length cs ≤ most_constructors
DefinitionCounted (StructureOf fs) = (0 < field_count fs) × (field_count fs ≤ most_fields)

-- the counts of declarations
pub record Counted (p : Tree) : Type 0 where
  pub types : length p.types ≤ most_declarations
  pub constants : length p.constants ≤ most_declarations
  pub nodes : length p.nodes ≤ most_declarations
  pub definitions : Each (λ d. DefinitionCounted d.definition) p.types
  pub variables : Each (λ f. variable_count (groups f) ≤ most_variables) p.nodes

abbrev pub greater : ℕ → ℕ → ℕ
greater m n = elim (nat_lt m n) [ true ↦ n | false ↦ m ]

abbrev pub greatest : {X : Type 0} → (X → ℕ) → List X → ℕ
greatest f [] = 0
greatest f (x ∷ xs) = greater (f x) (greatest f xs)

-- structures stand in a structure one deeper than in its deepest field
abbrev pub declared_nesting : (ℕ → ℕ) → Declared → ℕ
declared_nesting at (structure fs) = suc (greatest at (declared_uses (structure fs)))
declared_nesting at d = greatest at (declared_uses d)

-- a size of each of these types, by the sizes of the structures that its declaration names; e is that of bool
abbrev pub size_at : ℕ → ((ℕ → ℕ) → Declared → ℕ) → List Declared → ℕ → ℕ
size_at e size types = within (length types) e (λ at t. size at (item nothing_declared types t))

-- the leaves of each type: bool, int and an enumeration have one, a structure has those of its fields
abbrev pub leaves_at : List Declared → ℕ → ℕ
leaves_at = size_at 1 declared_leaves

-- how deep structures stand in each type
abbrev pub nesting_at : List Declared → ℕ → ℕ
nesting_at = size_at 0 declared_nesting

-- how deep each node's calls go: one deeper than those of the deepest that it calls, a node without calls one deep
abbrev pub call_depth_at : Tree → ℕ → ℕ
call_depth_at p = within (length p.nodes) 1 (λ at x. suc (greatest at (used (node_uses p) x)))

-- each of n things has what the step gives it by what those have that it uses; past the things there is e
pub record IsMeasure {X : Type 0} (uses : Uses) (e : X) (step : (ℕ → X) → ℕ → X) (n : ℕ) : Type 0 where
  pub count : length uses ≡ n
  pub local : IsLocal uses step
  pub nothing : (at : ℕ → X) (x : ℕ) → length uses ≤ x → step at x ≡ e

-- each of the first n is within a limit
abbrev pub AreWithin : ℕ → (ℕ → ℕ) → ℕ → Type 0
AreWithin n at most = Below n (λ k. at k ≤ most)

-- no type has too many leaves, or structures too deep in it, and no node's calls go too deep
pub record Bounded (p : Tree) : Type 0 where
  pub leaves : AreWithin (length (program_of p).types) (leaves_at (program_of p).types) most_leaves
  pub nesting : AreWithin (length (program_of p).types) (nesting_at (program_of p).types) most_nesting
  pub calls : AreWithin (length p.nodes) (call_depth_at p) most_calls_deep
