-- Names that stand once each: where they stand, and how often.
use Rattle.std.proofs.Common.{arith, ◌≡◌, ◌∙◌, refl, sym, ap, subst, inl, inr, ℕ, zero, suc, nat_eq, nat_lt, Bool, true, false, not, ◌||◌, cond, List, [], ◌∷◌, ◌++◌, length, map, Some}
use Rattle.std.proofs.lemmas.Bool.{and_parts, both_ways, false_from_ne_true, le-ltb, lt-ltb, not-true, or_cases, or_from, or_left, or_parts, or_right}
use Rattle.std.proofs.lemmas.Bool.Decides.{nat_tests}
use Rattle.std.proofs.lemmas.Slice.Eq.{bytes_eq-Decides}
use Rattle.std.specs.Prelude.{slice_get}
use Rattle.std.specs.List.{list_all}
use Rattle.std.specs.Str.{bytes_eq}
use Rattle.lus_values.specs.Lists.{Each}
use Rattle.lus_syntax.specs.Lexemes.{Text}
use Rattle.lus_program.specs.Kinds.{count}
use Rattle.lus_source.specs.Named.{is_in, all_new}
use Rattle.lus_source.proofs.AppendedNames.{is_in-append, all_new_apart}

pub same_text : (t u : Text) → bytes_eq t u ≡ true → t ≡ u
same_text t u h = (bytes_eq-Decides t u).0 h

pub text_same : (t u : Text) → t ≡ u → bytes_eq t u ≡ true
text_same t u h = (bytes_eq-Decides t u).1 h

-- what is among names that are all among others is among those
pub all_in : (ms ds : List Text) (t : Text) → list_all (is_in ms) ds ≡ true → is_in ds t ≡ true → is_in ms t ≡ true
all_in ms [] t all h = cc
all_in ms (d ∷ ds) t all h =
    let both = and_parts (is_in ms d) (list_all (is_in ms) ds) all in
    elim (or_cases (bytes_eq t d) (is_in ds t) h) [ inl same ↦ subst (λ u. is_in ms u ≡ true) (sym (same_text t d same)) both.0 | inr later ↦ all_in ms ds t both.1 later ]

-- the name at a place is among the names
in_at : (ns : List Text) (i : ℕ) (t : Text) → slice_get ns i ≡ Some t → is_in ns t ≡ true
in_at [] i t h = cc
in_at (n ∷ ns) zero t h = or_left (bytes_eq t n) (is_in ns t) (text_same t n cc)
in_at (n ∷ ns) (suc i) t h = or_right (bytes_eq t n) (is_in ns t) (in_at ns i t h)

-- no name stands again
abbrev pub AreApart : List Text → Type 0
AreApart [] = Unit {0}
AreApart (n ∷ ns) = (is_in ns n ≡ false) × AreApart ns

not_among : (n : Text) (ns : List Text) → list_all (λ m. not (is_in (n ∷ []) m)) ns ≡ true → is_in ns n ≡ false
not_among n [] h = refl
not_among n (m ∷ ns) h =
    let both = and_parts (not (bytes_eq m n || false)) (list_all (λ m. not (is_in (n ∷ []) m)) ns) h in
    let other = false_from_ne_true (bytes_eq n m) (λ same. both_ways (bytes_eq m n || false) (not-true (bytes_eq m n || false) both.0) (or_left (bytes_eq m n) false (text_same m n (sym (same_text n m same))))) in
    or_from (bytes_eq n m) (is_in ns n) other (not_among n ns both.1)

pub are_apart : (ns : List Text) → all_new [] ns ≡ true → AreApart ns
are_apart [] h = tt
are_apart (n ∷ ns) h =
    let both = and_parts (list_all (λ m. not (is_in (n ∷ []) m)) ns) (all_new [] ns) (sym (all_new_apart (n ∷ []) [] ns) ∙ h) in
    (not_among n ns both.0, are_apart ns both.1)

-- a name stands at one place
not_again : (n t : Text) (ns : List Text) (j : ℕ) → n ≡ t → is_in ns n ≡ false → slice_get ns j ≡ Some t → ⊥
not_again n t ns j same new at = both_ways (is_in ns n) new (subst (λ u. is_in ns u ≡ true) (sym same) (in_at ns j t at))

pub one_place : (ns : List Text) (t : Text) (i j : ℕ) → AreApart ns → slice_get ns i ≡ Some t → slice_get ns j ≡ Some t → i ≡ j
one_place [] t i j h a b = cc
one_place (n ∷ ns) t zero zero h a b = refl
one_place (n ∷ ns) t zero (suc j) h a b = absurd (not_again n t ns j (cc) h.0 b)
one_place (n ∷ ns) t (suc i) zero h a b = absurd (not_again n t ns i (cc) h.0 a)
one_place (n ∷ ns) t (suc i) (suc j) h a b = ap (λ k. suc k) (one_place ns t i j h.1 a b)

-- it is behind the first names where its place is
pub among_last : (ms ns : List Text) (i : ℕ) (t : Text) → AreApart (ms ++ ns) → slice_get (ms ++ ns) i ≡ Some t → is_in ns t ≡ not (nat_lt i (length ms))
among_last [] ns i t apart at = in_at ns i t at ∙ ap not (sym (le-ltb i 0 (omega arith)))
among_last (m ∷ ms) ns zero t apart at =
    let last = or_parts (is_in ms m) (is_in ns m) (sym (is_in-append ms ns m) ∙ apart.0) in
    let same : t ≡ m = cc in
    ap (is_in ns) same ∙ last.1 ∙ ap not (sym (lt-ltb 0 (suc (length ms)) (omega arith)))
among_last (m ∷ ms) ns (suc i) t apart at = among_last ms ns i t apart.1 at ∙ grind (arith, nat_tests)

-- and it counts one where it is
count_or : (b : Bool) (t u : Text) (us : List Text) (n : ℕ) → bytes_eq t u ≡ b → is_in us u ≡ false → n ≡ cond (is_in us t) 1 0 → cond b (suc n) n ≡ cond (b || is_in us t) 1 0
count_or true t u us n same apart counts = let new = ap (is_in us) (same_text t u same) ∙ apart in ap suc (counts ∙ ap (λ b. cond b 1 0) new)
count_or false t u us n same apart counts = counts

pub count_apart : (place : Text → ℕ) (x : ℕ) (t : Text) (us : List Text) → AreApart us → Each (λ u. nat_eq x (place u) ≡ bytes_eq t u) us → count x (map place us) ≡ cond (is_in us t) 1 0
count_apart place x t [] apart same = refl
count_apart place x t (u ∷ us) apart same =
    ap (λ b. cond b (suc (count x (map place us))) (count x (map place us))) same.0 ∙ count_or (bytes_eq t u) t u us (count x (map place us)) refl apart.0 (count_apart place x t us apart.1 same.1)
