-- First-flags are found again by the newest tests of their clocks.
use Rattle.std.proofs.Common.{◌≡◌, ◌∙◌, ℕ, suc, ◌+◌, ◌<◌, ◌≤◌, Bool, true, false, ◌&&◌, nat_eq, nat_lt, List, [], ◌∷◌, ◌++◌, map, length, drop, drop-cons, get_or, add-one, Option, Some, None, slice_get, refl, sym, ap, ap₂, arith, length-append}
use Rattle.std.specs.Prelude.{if◌then◌else◌}
use Rattle.std.proofs.lemmas.Bool.{and_parts, eqb-true, eq-eqb, ltb-true}
use Rattle.std.proofs.lemmas.List.{map-append}
use Rattle.lus_values.specs.Lists.{Each}
use Rattle.lus_values.specs.declared.test.Test.{Test}
use Rattle.lus_program.specs.declared.expr.Expr.{Expr}
use Rattle.lus_program.specs.Programs.{Operands, more}
use Rattle.lus_program.specs.View.{expression_of, operands_of}
use Rattle.lus_streams.specs.Clocks.{Clock}
use Rattle.lus_streams.proofs.Lists.{each_append}
use Rattle.lus_translation.specs.Firsts.{place_of, same_test, with_all, with_one}
use Rattle.lus_translation.specs.Forms.{all_kept_firsts, kept_firsts}
use Rattle.lus_translation.specs.Newest.{newest}

same_is : (t u : Option Test) → same_test t u ≡ true → u ≡ t
same_is None None e = refl
same_is None (Some u) e = cc
same_is (Some t) None e = cc
same_is (Some t) (Some u) e =
    let is = and_parts (nat_eq t.variable u.variable) (nat_eq t.constructor u.constructor) e in
    let x = eqb-true t.variable u.variable is.0 in
    let c = eqb-true t.constructor u.constructor is.1 in
    λ i. Some (record { variable = sym x i; constructor = sym c i })

-- tests have one of them where it stands first
abbrev pub Has : List (Option Test) → Option Test → Type 0
Has ts t = slice_get ts (place_of t ts) ≡ Some t

module _ (t : Option Test) where
  same_self : (u : Option Test) → same_test u u ≡ true
  same_self None = refl
  same_self (Some u) = ap₂ ◌&&◌ (eq-eqb u.variable u.variable refl) (eq-eqb u.constructor u.constructor refl)

  has_by : (u : Option Test) (us : List (Option Test)) (b : Bool) → same_test t u ≡ b → (b ≡ false → Has us t)
      → slice_get (u ∷ us) (if b then 0 else suc (place_of t us)) ≡ Some t
  has_by u us true e rest = ap Some (same_is t u e)
  has_by u us false e rest = rest refl

  rest_has : (u : Option Test) (us : List (Option Test)) (b : Bool) → b ≡ false → slice_get (u ∷ us) (if b then 0 else suc (place_of t us)) ≡ Some t → Has us t
  rest_has u us true e h = cc
  rest_has u us false e h = h

  rest_within : (us : List (Option Test)) (b : Bool) → b ≡ false → (if b then 0 else suc (place_of t us)) < suc (length us) → place_of t us < length us
  rest_within us true e lt = cc
  rest_within us false e lt = omega (arith, lt)

  has_within : (ts : List (Option Test)) → place_of t ts < length ts → Has ts t
  has_within [] lt = absurd (omega (arith, lt))
  has_within (u ∷ us) lt = has_by u us (same_test t u) refl (λ e. has_within us (rest_within us (same_test t u) e lt))

  has_last : (ts : List (Option Test)) → Has (ts ++ t ∷ []) t
  has_last [] = has_by t [] (same_test t t) refl (λ e. let yes = same_self t in cc)
  has_last (u ∷ us) = has_by u (us ++ t ∷ []) (same_test t u) refl (λ e. has_last us)

  has_more : (ts us : List (Option Test)) → Has ts t → Has (ts ++ us) t
  has_more [] us h = cc
  has_more (u ∷ ts) us h = has_by u (ts ++ us) (same_test t u) refl (λ e. has_more ts us (rest_has u ts (same_test t u) e h))

  has_one : (ts : List (Option Test)) (b : Bool) → nat_lt (place_of t ts) (length ts) ≡ b → Has (if b then ts else ts ++ t ∷ []) t
  has_one ts true e = has_within ts (ltb-true (place_of t ts) (length ts) e)
  has_one ts false e = has_last ts

  has_still : (ts : List (Option Test)) (u : Option Test) (b : Bool) → Has ts t → Has (if b then ts else ts ++ u ∷ []) t
  has_still ts u true h = h
  has_still ts u false h = has_more ts (u ∷ []) h

  has_all : (ts us : List (Option Test)) → Has ts t → Has (with_all ts us) t
  has_all ts [] h = h
  has_all ts (u ∷ us) h = has_all (with_one ts u) us (has_still ts u (nat_lt (place_of u ts) (length ts)) h)

pub all_had : (ts us : List (Option Test)) → Each (Has (with_all ts us)) us
all_had ts [] = tt
all_had ts (u ∷ us) = (has_all u (with_one ts u) us (has_one u ts (nat_lt (place_of u ts) (length ts)) refl), all_had (with_one ts u) us)

one_long : (ts : List (Option Test)) (u : Option Test) (b : Bool) → length (if b then ts else ts ++ u ∷ []) ≤ suc (length ts)
one_long ts u true = omega arith
one_long ts u false = let e = length-append ts (u ∷ []) in omega (arith, e)

-- no more than are given
pub all_few : (ts us : List (Option Test)) → length (with_all ts us) ≤ length ts + length us
all_few ts [] = omega arith
all_few ts (u ∷ us) =
    let rest = all_few (with_one ts u) us in
    let one = one_long ts u (nat_lt (place_of u ts) (length ts)) in
    omega (arith, rest, one)

module _ (P : Option Test → Type 0) where
  each_one : (ts : List (Option Test)) (u : Option Test) (b : Bool) → Each P ts → P u → Each P (if b then ts else ts ++ u ∷ [])
  each_one ts u true all h = all
  each_one ts u false all h = each_append P ts (u ∷ []) all (h, tt)

  -- what holds of those that are given
  pub each_all : (ts us : List (Option Test)) → Each P ts → Each P us → Each P (with_all ts us)
  each_all ts [] all h = all
  each_all ts (u ∷ us) all h = each_all (with_one ts u) us (each_one ts u (nat_lt (place_of u ts) (length ts)) all h.0) h.1

all_more : (ts us vs : List (Option Test)) → with_all ts (us ++ vs) ≡ with_all (with_all ts us) vs
all_more ts [] vs = refl
all_more ts (u ∷ us) vs = all_more (with_one ts u) us vs

-- those of some clocks and then of others
pub flags_next : (old now whole : List (Option Test)) (here rest : List Clock) → now ≡ with_all old (map newest here) → with_all old (map newest (here ++ rest)) ≡ whole
    → with_all now (map newest rest) ≡ whole
flags_next old now whole here rest is all =
    ap (λ l. with_all l (map newest rest)) is ∙ sym (all_more old (map newest here) (map newest rest)) ∙ ap (with_all old) (sym (map-append newest here rest)) ∙ all

-- those of one operand more
pub one_more_flagged : (old now whole : List (Option Test)) (es : List Expr) (ks : ℕ → Clock) (l : ℕ) (e : Expr) → l < length es → e ≡ get_or es l e
    → now ≡ with_all old (map newest (kept_firsts (expression_of e) (ks l))) → with_all old (map newest (all_kept_firsts (operands_of (drop l es)) ks l)) ≡ whole
    → with_all now (map newest (all_kept_firsts (operands_of (drop (l + 1) es)) ks (l + 1))) ≡ whole
one_more_flagged old now whole es ks l e lt is added so_far =
    let rest : Operands = operands_of (drop (suc l) es) in
    let all : operands_of (drop l es) ≡ more (expression_of e) rest = ap operands_of (drop-cons es l e lt ∙ ap (λ z. z ∷ drop (suc l) es) (sym is)) in
    rw add-one (flags_next old now whole (kept_firsts (expression_of e) (ks l)) (all_kept_firsts rest ks (suc l)) added (ap (λ o. with_all old (map newest (all_kept_firsts o ks l))) (sym all) ∙ so_far))
