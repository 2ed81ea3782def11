-- The test of equality is true of equal values alone.
use Rattle.std.proofs.Common.{◌≡◌, ◌↔◌, ◌∙◌, ℕ, Bool, true, false, ◌&&◌, ℤ, pos, negsuc, IsTrue, List, [], ◌∷◌, Vec, Global, length, suc, map, nat_eq, refl, sym, ap, subst, true≢false}
use Rattle.std.proofs.lemmas.Bool.{eqb-true, eq-eqb}
use Rattle.std.specs.Cmp.Derive.{both_true}
use Rattle.std.proofs.Math.Bool.{and-false}
use Rattle.lus_values.specs.declared.value.Value.{Value as StoredValue, Struct}
use Rattle.lus_values.specs.Values.{Value, bool, int, enum, struct, nil, Fields, end, field, fields_of}
use Rattle.lus_values.specs.Integers.{int_equal}
use Rattle.lus_values.specs.Equality.{bool_equal, same, same_fields}
use Rattle.lus_values.specs.View.{value_of}
use Rattle.lus_values.proofs.Views.{struct_fields, is_structure, no_structure}

pub and_left : (a b : Bool) → (a && b) ≡ true → a ≡ true
and_left true b e = refl
and_left false b e = e

pub and_right : (a b : Bool) → (a && b) ≡ true → b ≡ true
and_right true b e = e
and_right false b e = absurd (true≢false (sym e))

pub and_true : (a b : Bool) → a ≡ true → b ≡ true → (a && b) ≡ true
and_true true b h k = k
and_true false b h k = h

bool_equal-true : (a b : Bool) → bool_equal a b ≡ true → a ≡ b
bool_equal-true true b e = sym e
bool_equal-true false false e = refl
bool_equal-true false true e = e

bool_equal-self : (a : Bool) → bool_equal a a ≡ true
bool_equal-self true = refl
bool_equal-self false = refl

int_equal-true : (a b : ℤ) → int_equal a b ≡ true → a ≡ b
int_equal-true (pos a) (pos b) e = ap pos (eqb-true a b e)
int_equal-true (negsuc a) (negsuc b) e = ap negsuc (eqb-true a b e)
int_equal-true (pos a) (negsuc b) e = absurd (true≢false (sym e))
int_equal-true (negsuc a) (pos b) e = absurd (true≢false (sym e))

int_equal-self : (a : ℤ) → int_equal a a ≡ true
int_equal-self (pos n) = eq-eqb n n refl
int_equal-self (negsuc n) = eq-eqb n n refl

enum_equal : (t c t' c' : ℕ) → (nat_eq t t' && nat_eq c c') ≡ true → enum t c ≡ enum t' c'
enum_equal t c t' c' e =
    ap (λ n. enum n c) (eqb-true t t' (and_left (nat_eq t t') (nat_eq c c') e)) ∙ ap (enum t') (eqb-true c c' (and_right (nat_eq t t') (nat_eq c c') e))

mutual
  same-true : (v w : Value) → same v w ≡ true → v ≡ w
  same-true (bool a) (bool b) e = ap bool (bool_equal-true a b e)
  same-true (int a) (int b) e = ap int (int_equal-true a b e)
  same-true (enum t c) (enum t' c') e = enum_equal t c t' c' e
  same-true (struct a) (struct b) e = ap struct (same_fields-true a b e)
  same-true nil nil e = refl
  same-true _ _ e = absurd (true≢false (sym e))

  same_fields-true : (a b : Fields) → same_fields a b ≡ true → a ≡ b
  same_fields-true end end e = refl
  same_fields-true (field v a) (field w b) e =
      ap (λ u. field u a) (same-true v w (and_left (same v w) (same_fields a b) e)) ∙ ap (field w) (same_fields-true a b (and_right (same v w) (same_fields a b) e))
  same_fields-true _ _ e = absurd (true≢false (sym e))

mutual
  same-self : (v : Value) → same v v ≡ true
  same-self (bool a) = bool_equal-self a
  same-self (int a) = int_equal-self a
  same-self (enum t c) = both_true (eq-eqb t t refl) (eq-eqb c c refl)
  same-self (struct fs) = same_fields-self fs
  same-self nil = refl

  same_fields-self : (fs : Fields) → same_fields fs fs ≡ true
  same_fields-self end = refl
  same_fields-self (field v fs) = both_true (same-self v) (same_fields-self fs)

-- the test is true exactly of equal values
pub same_tells : (v w : Value) → IsTrue (same v w) ↔ (v ≡ w)
same_tells v w = (same-true v w, λ e. subst (λ u. same v u ≡ true) e (same-self v))

pub told_by_same : (b : Bool) (v w : Value) → b ≡ same v w → IsTrue b ↔ (v ≡ w)
told_by_same b v w e = rw e (same_tells v w)

-- equality of the fields of two structures
abbrev pub same_all : List StoredValue → List StoredValue → Bool
same_all xs ys = same_fields (fields_of (map value_of xs)) (fields_of (map value_of ys))

pub same-structures : (xs ys : Vec StoredValue Global) (v w : StoredValue) → v ≡ Struct xs → w ≡ Struct ys → same_all xs.items ys.items ≡ same (value_of v) (value_of w)
same-structures xs ys v w e e' = rw (e, e', struct_fields xs, struct_fields ys)

no_structure-same : (fs : Fields) (v : Value) → is_structure v ≡ false → false ≡ same (struct fs) v
no_structure-same fs (struct gs) e = absurd (true≢false e)
no_structure-same fs _ e = refl

pub same-other : (xs : Vec StoredValue Global) (v w : StoredValue) → v ≡ Struct xs → ((ys : Vec StoredValue Global) → w ≡ Struct ys → ⊥) → false ≡ same (value_of v) (value_of w)
same-other xs v w e other = rw (e, struct_fields xs) (no_structure-same _ (value_of w) (no_structure w other))

pub same_all-lengths : (xs ys : List StoredValue) → (length xs ≡ length ys → ⊥) → same_all xs ys ≡ false
same_all-lengths [] [] h = absurd (h refl)
same_all-lengths (x ∷ xs) [] h = refl
same_all-lengths [] (y ∷ ys) h = refl
same_all-lengths (x ∷ xs) (y ∷ ys) h =
    ap (λ b. same (value_of x) (value_of y) && b) (same_all-lengths xs ys (λ e. h (ap suc e))) ∙ and-false (same (value_of x) (value_of y))
