-- Operators on structures, word by word.
use Rattle.std.specs.Prelude.{◌≡◌, ◌≤◌, true, [], ◌∷◌, Option, Some, None, ℕ, map, option_map, List}
use Rattle.lus_values.specs.Lists.{item}
use Rattle.lus_values.specs.Operators.{apply}
use Rattle.lus_values.specs.Values.{Value, bool, Row}
use Rattle.lus_values.specs.declared.operator.Op.TheVariants as ops
use Rattle.lus_values.specs.declared.operator.Operator.{Operator}
use Rattle.lus_values.specs.declared.operator.Operator.TheVariants as operators
use Rattle.lus_program.specs.declared.types.Kind.{Kind}
use Rattle.lus_program.specs.declared.types.Kind.TheVariants as kinds
use Rattle.lus_program.specs.Programs.{Program}
use Rattle.lus_program.specs.Resolved.{field_kinds}
use Rattle.lus_typed_streams.specs.Types.{Constructors, HasType, HaveTypes}
use Rattle.lus_words.specs.Encoded.{words, encode, joined}
use Rattle.lus_words.specs.Layouts.{Layout, parts, Layouts, done, next, size, IsLayout}

-- an operator on two entries that have a value, and `if` on two branches
abbrev pub both : Operator → Option Value → Option Value → Option Value
both o (Some a) (Some b) = apply o (a ∷ b ∷ [])
both o a b = None

abbrev pub either : Value → Option Value → Option Value → Option Value
either c (Some a) (Some b) = apply operators.If (c ∷ a ∷ b ∷ [])
either c a b = None

-- `if` on each pair of words
abbrev pub each_either : Value → Row → Row → Row
each_either c (a ∷ r) (b ∷ t) = either c a b ∷ each_either c r t
each_either c r t = []

-- equality of each pair of words, and all of them
abbrev pub all_equal : Row → Row → Option Value
all_equal [] [] = Some (bool true)
all_equal (a ∷ r) (b ∷ t) = both (operators.Compute ops.And) (both (operators.Compute ops.Equal) a b) (all_equal r t)
all_equal r t = None

-- the first word of each value
abbrev pub firsts : Layouts → List Value → Row
firsts (next l ls) (v ∷ vs) = item None (words l v) 0 ∷ firsts ls vs
firsts ls vs = []

abbrev pub HavePlaces : Layouts → Type 0
HavePlaces done = Unit {0}
HavePlaces (next l ls) = (1 ≤ size l) × HavePlaces ls

module _ (p : Program) (constructors : Constructors) where
  abbrev pub EqualByWords : Type 0
  EqualByWords =
      (k : Kind) (l : Layout) → IsLayout p k l → 1 ≤ size l → (v w : Value) → HasType p constructors k (Some v) → HasType p constructors k (Some w)
      → apply (operators.Compute ops.Equal) (v ∷ w ∷ []) ≡ all_equal (words l v) (words l w)

  abbrev pub IfByWords : Type 0
  IfByWords =
      (k : Kind) (l : Layout) → IsLayout p k l → (c v w : Value) → HasType p constructors kinds.Bool (Some c) → HasType p constructors k (Some v) → HasType p constructors k (Some w)
      → encode l (apply operators.If (c ∷ v ∷ w ∷ [])) ≡ each_either c (words l v) (words l w)

  -- where each field has a place, the first words of all fields tell whether one is nil: what all of them being equal to themselves gives, as the
  -- condition of `if`, makes the words of a structure of those of its fields
  abbrev pub StructuresByWords : Type 0
  StructuresByWords =
      (t : ℕ) (ls : Layouts) → IsLayout p (kinds.Struct t) (parts ls) → HavePlaces ls → (vs : List Value) → HaveTypes p constructors (field_kinds p (kinds.Struct t)) (map Some vs)
      → option_map (λ c. each_either c (joined ls vs) (joined ls vs)) (all_equal (firsts ls vs) (firsts ls vs)) ≡ Some (encode (parts ls) (apply (operators.Structure t) vs))
