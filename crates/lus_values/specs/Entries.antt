-- Entries of a row: which constructor one holds, operands that may have no value, and the choice that `->` makes.
use Rattle.std.specs.Prelude.{ℕ, Bool, true, false, nat_eq, List, ◌∷◌, Option, Some, None, if◌then◌else◌}
use Rattle.lus_values.specs.Values.{Value, bool, enum}

-- a value is this constructor; of a truth value, 0 is false and 1 is true
abbrev pub is_constructor : ℕ → Option Value → Bool
is_constructor c (Some (bool b)) = nat_eq c (if b then 1 else 0)
is_constructor c (Some (enum t d)) = nat_eq c d
is_constructor c _ = false

-- one more operand: where either has no value, they have none
abbrev pub with_operand : Option Value → Option (List Value) → Option (List Value)
with_operand None vs = None
with_operand (Some v) None = None
with_operand (Some v) (Some vs) = Some (v ∷ vs)

abbrev pub with_operands : (List Value → Option Value) → Option (List Value) → Option Value
with_operands f None = None
with_operands f (Some vs) = f vs

-- the first of two values where a first-flag is set, else the second; both are computed
abbrev pub chosen : Option Bool → Option Value → Option Value → Option Value
chosen None u v = None
chosen (Some first) None v = None
chosen (Some first) (Some u) None = None
chosen (Some true) (Some u) (Some v) = Some u
chosen (Some false) (Some u) (Some v) = Some v
