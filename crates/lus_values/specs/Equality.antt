-- Equality of values, as a test.
use Rattle.std.specs.Prelude.{Bool, true, false, not, ◌&&◌, nat_eq}
use Rattle.lus_values.specs.Integers.{int_equal}
use Rattle.lus_values.specs.Values.{Value, bool, int, enum, struct, nil, Fields, end, field}

abbrev pub bool_equal : Bool → Bool → Bool
bool_equal true b = b
bool_equal false b = not b

-- structures are equal field by field
abbrev mutual
  pub same : Value → Value → Bool
  same (bool a) (bool b) = bool_equal a b
  same (int a) (int b) = int_equal a b
  same (enum t c) (enum t' c') = nat_eq t t' && nat_eq c c'
  same (struct a) (struct b) = same_fields a b
  same nil nil = true
  same _ _ = false

  pub same_fields : Fields → Fields → Bool
  same_fields end end = true
  same_fields (field v a) (field w b) = same v w && same_fields a b
  same_fields _ _ = false
