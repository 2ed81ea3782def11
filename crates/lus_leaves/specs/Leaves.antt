-- The leaves of values: what C's numbers spell.
use Rattle.std.specs.Prelude.{◌++◌, ℕ, zero, suc, ℤ, pos, Bool, true, false, List, [], ◌∷◌, flat_map, Option, None, Some}
use Rattle.lus_values.specs.Values.{Value, bool, int, enum, struct, nil, Fields, end, field, Row}
use Rattle.lus_leaves.specs.declared.leaf.Leaf.{Leaf}

abbrev pub leaf : ℕ → ℕ → ℤ → Leaf
leaf kind type number = record { kind = kind; of = type; number = number }

abbrev pub number_of : Bool → ℤ
number_of false = pos 0
number_of true = pos 1

abbrev pub count : Fields → ℕ
count end = zero
count (field v fs) = suc (count fs)

-- a structure is a leaf with the number of its fields, and then the fields
abbrev mutual
  pub value_leaves : Value → List Leaf
  value_leaves (bool b) = leaf 1 0 (number_of b) ∷ []
  value_leaves (int z) = leaf 2 0 z ∷ []
  value_leaves (enum type constructor) = leaf 3 type (pos constructor) ∷ []
  value_leaves (struct fs) = leaf 4 0 (pos (count fs)) ∷ fields_leaves fs
  value_leaves nil = leaf 5 0 (pos 0) ∷ []

  pub fields_leaves : Fields → List Leaf
  fields_leaves end = []
  fields_leaves (field v fs) = value_leaves v ++ fields_leaves fs

abbrev pub entry_leaves : Option Value → List Leaf
entry_leaves None = leaf 0 0 (pos 0) ∷ []
entry_leaves (Some v) = value_leaves v

abbrev pub row_leaves : Row → List Leaf
row_leaves row = flat_map entry_leaves row

-- one row behind another
abbrev pub rows_leaves : List Row → List Leaf
rows_leaves rows = flat_map row_leaves rows
