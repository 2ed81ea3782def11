-- What words keep of values.
use Rattle.std.specs.Prelude.{◌≡◌, ◌≤◌, ◌++◌, ℕ, suc, List, [], ◌∷◌, length, map, drop, take, replicate, Option, Some, if◌then◌else◌, IsTrue}
use Rattle.std.specs.Option.{option_and_then}
use Rattle.lus_values.specs.Equality.{same}
use Rattle.lus_values.specs.Lists.{item}
use Rattle.lus_values.specs.Operators.{any_nil, apply}
use Rattle.lus_values.specs.Values.{Value, nil, Row}
use Rattle.lus_values.specs.declared.operator.Operator.TheVariants as operators
use Rattle.lus_program.specs.declared.types.Kind.{Kind}
use Rattle.lus_program.specs.declared.types.Kind.TheVariants as kinds
use Rattle.lus_program.specs.Leaves.{kind_leaves, AreTheLeaves}
use Rattle.lus_program.specs.NamedKinds.{IsNamedRight, KindsAreNamedRight}
use Rattle.lus_program.specs.Programs.{Program}
use Rattle.lus_program.specs.Resolved.{field_kinds}
use Rattle.lus_program.specs.Sound.{HaveOrder, type_uses}
use Rattle.lus_typed_streams.specs.Types.{Constructors, is_of_type, HasType, HaveTypes}
use Rattle.lus_words.specs.Encoded.{words, encode, decode, joined, same_words}
use Rattle.lus_words.specs.Depths.{depth}
use Rattle.lus_words.specs.Fitting.{EntryFits}
use Rattle.lus_words.specs.Layouts.{Layout, parts, Layouts, size, sizes, places, layout_at, offset, IsLayout}

-- each type has one layout, with as many words as the type has leaves
abbrev pub LayoutsAreUnique : Type 0
LayoutsAreUnique = (p : Program) (k : Kind) (l m : Layout) → IsLayout p k l → IsLayout p k m → l ≡ m

abbrev pub SizesAreLeaves : Type 0
SizesAreLeaves =
    (p : Program) (table : List ℕ) → AreTheLeaves p table → KindsAreNamedRight p
    → (k : Kind) (l : Layout) → IsNamedRight p k → IsLayout p k l → size l ≡ kind_leaves (item 1 table) k

-- an entry has as many words as its layout says, whatever it is
abbrev pub WordsAreAllTheSize : Type 0
WordsAreAllTheSize = (l : Layout) (e : Option Value) → length (encode l e) ≡ size l

-- a field of an entry lies at its offset, whatever the entry is: of nil and of an absent structure as well
abbrev pub field_of_entry : ℕ → Option Value → Option Value
field_of_entry n = option_and_then (λ v. apply (operators.Field n) (v ∷ []))

module _ (p : Program) (constructors : Constructors) where
  -- the words of an entry of a type have the types of its places
  abbrev pub WordsHaveTypes : Type 0
  WordsHaveTypes = (k : Kind) (l : Layout) → IsLayout p k l → (e : Option Value) → HasType p constructors k e → HaveTypes p constructors (places l) (encode l e)

  -- an entry of a type is read back from its words, whatever stands behind them
  abbrev pub DecodesEncoded : Type 0
  DecodesEncoded =
      (k : Kind) (l : Layout) → IsLayout p k l → 1 ≤ size l → (e : Option Value) → HasType p constructors k e → (behind : Row) → decode l (encode l e ++ behind) ≡ e

  abbrev pub FieldsAreSlices : Type 0
  FieldsAreSlices =
      (t : ℕ) (ls : Layouts) → IsLayout p (kinds.Struct t) (parts ls) → (e : Option Value) → HasType p constructors (kinds.Struct t) e
      → (n : ℕ) → take (size (layout_at ls n)) (drop (offset ls n) (encode (parts ls) e)) ≡ encode (layout_at ls n) (field_of_entry n e)

  -- values of one type are the same where their words are
  abbrev pub SameAsWords : Type 0
  SameAsWords =
      (k : Kind) (l : Layout) → IsLayout p k l → (v w : Value) → IsTrue (is_of_type p constructors k v) → IsTrue (is_of_type p constructors k w)
      → same v w ≡ same_words (words l v) (words l w)

  -- a structure's words are those of its fields, and nil in each place where one of them is nil
  abbrev pub StructuresAreJoined : Type 0
  StructuresAreJoined =
      (t : ℕ) (ls : Layouts) → IsLayout p (kinds.Struct t) (parts ls) → (vs : List Value) → HaveTypes p constructors (field_kinds p (kinds.Struct t)) (map Some vs)
      → encode (parts ls) (apply (operators.Structure t) vs) ≡ (if any_nil vs then replicate (sizes ls) (Some nil) else joined ls vs)

  -- an entry of a type can be pushed
  abbrev pub EntriesFit : Type 0
  EntriesFit = (k : Kind) (l : Layout) → IsLayout p k l → (e : Option Value) → HasType p constructors k e → EntryFits l e

-- where the types can be ordered by what they use, as those of a sound program can, each has a layout
abbrev pub TypesHaveLayouts : Type 0
TypesHaveLayouts = (p : Program) → HaveOrder (type_uses p) → (k : Kind) → (l : Layout) × IsLayout p k l

-- and structures stand in one another no deeper than there are types, and one
abbrev pub LayoutsAreShallow : Type 0
LayoutsAreShallow = (p : Program) → HaveOrder (type_uses p) → (k : Kind) (l : Layout) → IsLayout p k l → depth l ≤ suc (length p.types)
