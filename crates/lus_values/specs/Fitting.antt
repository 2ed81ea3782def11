-- Which operands an operator takes. Lustre V6 reference manual, "Predefined operators".
use Rattle.std.specs.Prelude.{Bool, true, false, ◌&&◌, ◌||◌, nat_eq, List, [], ◌∷◌}
use Rattle.std.specs.List.{list_all}
use Rattle.lus_values.specs.declared.operator.Op.{Op}
use Rattle.lus_values.specs.declared.operator.Shape.{Shape}
use Rattle.lus_values.specs.declared.operator.Shape.TheVariants as shapes
use Rattle.lus_values.specs.Values.{Value, bool, int, enum, struct, Fields, end, field}
use Rattle.lus_values.specs.Operators.{shape, is_nil}

-- two values are of one kind: structures of as many fields, each pair of one kind; nil is of none
abbrev mutual
  pub alike : Value → Value → Bool
  alike (bool a) (bool b) = true
  alike (int a) (int b) = true
  alike (enum t c) (enum t' c') = nat_eq t t'
  alike (struct a) (struct b) = alike_fields a b
  alike _ _ = false

  pub alike_fields : Fields → Fields → Bool
  alike_fields end end = true
  alike_fields (field v a) (field w b) = alike v w && alike_fields a b
  alike_fields _ _ = false

-- an operand fits where it is nil too
abbrev pub fits_int : Value → Bool
fits_int (int a) = true
fits_int v = is_nil v

abbrev pub fits_bool : Value → Bool
fits_bool (bool a) = true
fits_bool v = is_nil v

abbrev pub fit_equality : Value → Value → Bool
fit_equality a b = is_nil a || (is_nil b || alike a b)

abbrev pub one : (Value → Bool) → List Value → Bool
one f (a ∷ []) = f a
one f _ = false

abbrev pub two : (Value → Value → Bool) → List Value → Bool
two f (a ∷ b ∷ []) = f a b
two f _ = false

abbrev pub one_or_more : (Value → Bool) → List Value → Bool
one_or_more f [] = false
one_or_more f (v ∷ vs) = list_all f (v ∷ vs)

abbrev pub fits_shape : Shape → List Value → Bool
fits_shape shapes.Int = one fits_int
fits_shape shapes.Ints = two (λ a b. fits_int a && fits_int b)
fits_shape shapes.Comparison = two (λ a b. fits_int a && fits_int b)
fits_shape shapes.Bool = one fits_bool
fits_shape shapes.Bools = two (λ a b. fits_bool a && fits_bool b)
fits_shape shapes.Alike = two fit_equality
fits_shape shapes.Count = one_or_more fits_bool

-- the operands fit the operator, in number and in kind
abbrev pub fits_op : Op → List Value → Bool
fits_op op = fits_shape (shape op)
