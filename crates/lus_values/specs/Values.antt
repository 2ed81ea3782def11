-- Values of streams, as plain data.
use Rattle.std.specs.Prelude.{ℕ, ℤ, Bool, List, [], ◌∷◌, Option}

-- a value of a stream; a constructor has the numbers of its type and of itself
mutual
  pub data Value : Type 0 where
    bool : Bool → Value
    int : ℤ → Value
    enum : (type constructor : ℕ) → Value
    struct : Fields → Value
    nil : Value

  pub data Fields : Type 0 where
    end : Fields
    field : Value → Fields → Fields

abbrev pub fields_of : List Value → Fields
fields_of [] = end
fields_of (v ∷ vs) = field v (fields_of vs)

-- the entries of variables at one instant, None where absent
abbrev pub Row : Type 0
Row = List (Option Value)
