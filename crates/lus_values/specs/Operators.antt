-- What operators give at an instant: a value, nil, or no value, which is a fault.
-- Lustre V6 reference manual, "Predefined operators"; that a nil operand gives nil, and which results are faults, is this project's choice.
use Rattle.std.specs.Prelude.{ℕ, zero, suc, Bool, true, false, not, ◌&&◌, ◌||◌, ℤ, ◌+ℤ◌, ◌-ℤ◌, ◌*ℤ◌, neg_ℤ, int_lt, int_le, nat_eq, nat_le, List, [], ◌∷◌, Option, Some, None, if◌then◌else◌}
use Rattle.std.specs.List.{count_by, list_all}
use Rattle.std.specs.Option.{option_and_then, option_map}
use Rattle.lus_values.specs.declared.operator.Op.{Op}
use Rattle.lus_values.specs.declared.operator.Op.TheVariants as ops
use Rattle.lus_values.specs.declared.operator.Shape.{Shape}
use Rattle.lus_values.specs.declared.operator.Shape.TheVariants as shapes
use Rattle.lus_values.specs.declared.operator.Operator.{Operator}
use Rattle.lus_values.specs.declared.operator.Operator.TheVariants.{Compute, If, Structure, Field}
use Rattle.lus_values.specs.Values.{Value, bool, int, struct, nil, Fields, end, field, fields_of}
use Rattle.lus_values.specs.Integers.{in_range, quotient, remainder}
use Rattle.lus_values.specs.Equality.{bool_equal, same}

-- the operands, if they are one or two integers, truth values or any values
abbrev pub one_int : List Value → Option ℤ
one_int (int a ∷ []) = Some a
one_int _ = None

abbrev pub two_ints : List Value → Option (ℤ × ℤ)
two_ints (int a ∷ int b ∷ []) = Some (a, b)
two_ints _ = None

abbrev pub one_bool : List Value → Option Bool
one_bool (bool a ∷ []) = Some a
one_bool _ = None

abbrev pub two_bools : List Value → Option (Bool × Bool)
two_bools (bool a ∷ bool b ∷ []) = Some (a, b)
two_bools _ = None

abbrev pub two_values : List Value → Option (Value × Value)
two_values (a ∷ b ∷ []) = Some (a, b)
two_values _ = None

abbrev pub is_bool : Value → Bool
is_bool (bool a) = true
is_bool _ = false

abbrev pub is_true : Value → Bool
is_true (bool a) = a
is_true _ = false

-- how many operands are true, if they are one truth value or more
abbrev pub count_true : List Value → Option ℕ
count_true [] = None
count_true (v ∷ vs) = if list_all is_bool (v ∷ vs) then Some (count_by is_true (v ∷ vs)) else None

-- what an operator makes of the operands that it takes
pub data Rule : Type 0 where
  of_int : (ℤ → Option ℤ) → Rule
  of_ints : (ℤ → ℤ → Option ℤ) → Rule
  comparing : (ℤ → ℤ → Bool) → Rule
  of_bool : (Bool → Bool) → Rule
  of_bools : (Bool → Bool → Bool) → Rule
  of_alike : (Value → Value → Bool) → Rule
  counting : (ℕ → Bool) → Rule

-- the rule of each operator; `#` says that at most one operand is true, `nor` that none is
abbrev pub rule : Op → Rule
rule ops.Negate = of_int (λ a. in_range (neg_ℤ a))
rule ops.Add = of_ints (λ a b. in_range (a +ℤ b))
rule ops.Subtract = of_ints (λ a b. in_range (a -ℤ b))
rule ops.Multiply = of_ints (λ a b. in_range (a *ℤ b))
rule ops.Divide = of_ints quotient
rule ops.Remainder = of_ints remainder
rule ops.Not = of_bool not
rule ops.And = of_bools (λ a b. a && b)
rule ops.Or = of_bools (λ a b. a || b)
rule ops.Xor = of_bools (λ a b. not (bool_equal a b))
rule ops.Implies = of_bools (λ a b. not a || b)
rule ops.Equal = of_alike same
rule ops.NotEqual = of_alike (λ a b. not (same a b))
rule ops.Less = comparing int_lt
rule ops.AtMost = comparing int_le
rule ops.Greater = comparing (λ a b. int_lt b a)
rule ops.AtLeast = comparing (λ a b. int_le b a)
rule ops.AtMostOne = counting (λ n. nat_le n 1)
rule ops.Nor = counting (λ n. nat_eq n 0)

-- what a rule gives for operands of which none is nil; no value for others than it takes
abbrev pub computed : Rule → List Value → Option Value
computed (of_int f) vs = option_and_then (λ a. option_map int (f a)) (one_int vs)
computed (of_ints f) vs = option_and_then (λ p. option_map int (f p.0 p.1)) (two_ints vs)
computed (comparing f) vs = option_map (λ p. bool (f p.0 p.1)) (two_ints vs)
computed (of_bool f) vs = option_map (λ a. bool (f a)) (one_bool vs)
computed (of_bools f) vs = option_map (λ p. bool (f p.0 p.1)) (two_bools vs)
computed (of_alike f) vs = option_map (λ p. bool (f p.0 p.1)) (two_values vs)
computed (counting f) vs = option_map (λ n. bool (f n)) (count_true vs)

abbrev pub compute : Op → List Value → Option Value
compute op = computed (rule op)

-- what an operator takes and gives, whatever it makes of it
abbrev pub shape_of : Rule → Shape
shape_of (of_int f) = shapes.Int
shape_of (of_ints f) = shapes.Ints
shape_of (comparing f) = shapes.Comparison
shape_of (of_bool f) = shapes.Bool
shape_of (of_bools f) = shapes.Bools
shape_of (of_alike f) = shapes.Alike
shape_of (counting f) = shapes.Count

abbrev pub shape : Op → Shape
shape op = shape_of (rule op)

-- `if c then a else b`
abbrev pub choose : List Value → Option Value
choose (bool c ∷ a ∷ b ∷ []) = Some (if c then a else b)
choose _ = None

abbrev pub field_at : Fields → ℕ → Option Value
field_at end n = None
field_at (field v fs) zero = Some v
field_at (field v fs) (suc n) = field_at fs n

-- a field of a structure
abbrev pub project : ℕ → List Value → Option Value
project n (struct fs ∷ []) = field_at fs n
project n _ = None

abbrev pub give : Operator → List Value → Option Value
give (Compute op) vs = compute op vs
give If vs = choose vs
give (Structure n) vs = Some (struct (fields_of vs))
give (Field n) vs = project n vs

abbrev pub is_nil : Value → Bool
is_nil nil = true
is_nil _ = false

abbrev pub any_nil : List Value → Bool
any_nil [] = false
any_nil (v ∷ vs) = is_nil v || any_nil vs

-- a nil operand gives nil, whatever the others are
abbrev pub apply : Operator → List Value → Option Value
apply operator vs = if any_nil vs then Some nil else give operator vs
