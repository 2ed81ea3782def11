-- The leaves of types: how many values of bool, of int or of enumerations one value of a type is.
use Rattle.std.specs.Prelude.{◌≡◌, ◌≤◌, ℕ, List, sum_by}
use Rattle.lus_values.specs.Lists.{item}
use Rattle.lus_program.specs.declared.types.Kind.{Kind}
use Rattle.lus_program.specs.declared.types.Kind.TheVariants as kinds
use Rattle.lus_program.specs.Programs.{Declared, alias, enumeration, structure, Program}
use Rattle.lus_program.specs.Resolved.{declared_in}

-- the leaves of a type, where declared type t has `at t`: bool, int and an enumeration have one
abbrev pub kind_leaves : (ℕ → ℕ) → Kind → ℕ
kind_leaves at kinds.Bool = 1
kind_leaves at kinds.Int = 1
kind_leaves at (kinds.Enum t) = 1
kind_leaves at (kinds.Struct t) = at t

-- a structure has those of its fields
abbrev pub declared_leaves : (ℕ → ℕ) → Declared → ℕ
declared_leaves at (alias k) = kind_leaves at k
declared_leaves at (enumeration cs) = 1
declared_leaves at (structure fs) = sum_by (λ g. kind_leaves at g.kind) fs

-- the leaves of each declared type
abbrev pub AreLeaves : Program → (ℕ → ℕ) → Type 0
AreLeaves p at = (t : ℕ) → at t ≡ declared_leaves at (declared_in p t)

-- each declared type has a leaf
abbrev pub HaveLeaves : Program → Type 0
HaveLeaves p = (at : ℕ → ℕ) → AreLeaves p at → (t : ℕ) → 1 ≤ at t

-- the table has the leaves of the declared types: there is one such table, and no type is without
pub record AreTheLeaves (p : Program) (table : List ℕ) : Type 0 where
  pub are : AreLeaves p (item 1 table)
  pub only : (at : ℕ → ℕ) → AreLeaves p at → item 1 table ≡ at
  pub some : HaveLeaves p
