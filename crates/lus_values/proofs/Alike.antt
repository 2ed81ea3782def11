-- The test of two values' kinds at structures.
use Rattle.std.proofs.Common.{◌≡◌, ◌∙◌, Bool, false, ◌&&◌, List, [], ◌∷◌, Vec, Global, length, suc, map, refl, ap, true≢false}
use Rattle.std.proofs.Math.Bool.{and-false}
use Rattle.lus_values.specs.declared.value.Value.{Value as StoredValue, Struct}
use Rattle.lus_values.specs.Values.{Value, struct, Fields, fields_of}
use Rattle.lus_values.specs.Fitting.{alike, alike_fields}
use Rattle.lus_values.specs.View.{value_of}
use Rattle.lus_values.proofs.Views.{struct_fields, is_structure, no_structure}

-- the fields of two structures are of one kind, pair by pair
abbrev pub alike_all : List StoredValue → List StoredValue → Bool
alike_all xs ys = alike_fields (fields_of (map value_of xs)) (fields_of (map value_of ys))

pub alike-structures : (xs ys : Vec StoredValue Global) (v w : StoredValue) → v ≡ Struct xs → w ≡ Struct ys → alike_all xs.items ys.items ≡ alike (value_of v) (value_of w)
alike-structures xs ys v w e e' = rw (e, e', struct_fields xs, struct_fields ys)

no_structure-alike : (fs : Fields) (v : Value) → is_structure v ≡ false → false ≡ alike (struct fs) v
no_structure-alike fs (struct gs) e = absurd (true≢false e)
no_structure-alike fs _ e = refl

pub alike-other : (xs : Vec StoredValue Global) (v w : StoredValue) → v ≡ Struct xs → ((ys : Vec StoredValue Global) → w ≡ Struct ys → ⊥) → false ≡ alike (value_of v) (value_of w)
alike-other xs v w e other = rw (e, struct_fields xs) (no_structure-alike _ (value_of w) (no_structure w other))

pub alike_all-lengths : (xs ys : List StoredValue) → (length xs ≡ length ys → ⊥) → alike_all xs ys ≡ false
alike_all-lengths [] [] h = absurd (h refl)
alike_all-lengths (x ∷ xs) [] h = refl
alike_all-lengths [] (y ∷ ys) h = refl
alike_all-lengths (x ∷ xs) (y ∷ ys) h =
    ap (λ b. alike (value_of x) (value_of y) && b) (alike_all-lengths xs ys (λ e. h (ap suc e))) ∙ and-false (alike (value_of x) (value_of y))
