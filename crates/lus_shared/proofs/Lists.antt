-- Sums over lists after a write, beginnings of lists, and the calls of one caller.
use Rattle.std.proofs.Common.{◌≡◌, ◌≢◌, ◌==◌, ℕ, zero, suc, ◌+◌, ◌<◌, ◌≤◌, false, cond, List, [], ◌∷◌, ◌++◌, map, length, set, refl, ap, sym, ◌∙◌, arith, append_assoc, eq-eqb, ne_eqb, add-one, add-zero, ◌-◌}
use Rattle.std.specs.List.{filter, sum_by, All}
use Rattle.std.proofs.lemmas.List.{map-append, append-nil}
use Rattle.std.proofs.lemmas.List.Sums.{sum_by-cons, length-filter, count_by-le-length}
use Rattle.std.proofs.lemmas.List.Elements.{filter-append, All-nil, All-cons}
use mathlib.Core.Option.{some, some-injective, some-ne-none}
use mathlib.Core.List.{IsPrefix}
use lib.ListN.{get_elem?, length-map}
use Rattle.lus_requests.specs.declared.request.Entry.{Entry}
use Rattle.lus_shared.specs.Knowledge.{call_of, kept, Facts, Origin, Instance, Standing}
use Rattle.lus_shared.specs.Views.{fresh_standing, fresh_seats}
use Rattle.lus_values.specs.Lists.{Each}
use Rattle.lus_shared.specs.Rule.{fresh}

module _ {A : Type 0} (f : A → ℕ) where
  pub sum_set : (l : List A) (i : ℕ) (v w : A) → get_elem? l i ≡ some v → sum_by f (set l i w) + f v ≡ sum_by f l + f w
  sum_set [] i v w e = absurd (some-ne-none v (sym e))
  sum_set (x ∷ xs) zero v w e = let same : f x ≡ f v = ap f (some-injective x v e) in omega (arith, sum_by-cons f w xs, sum_by-cons f x xs)
  sum_set (x ∷ xs) (suc i) v w e = let rest = sum_set xs i v w e in omega (arith, sum_by-cons f x (set xs i w), sum_by-cons f x xs)

  pub sum_at : (l : List A) (i : ℕ) (v : A) → get_elem? l i ≡ some v → f v ≤ sum_by f l
  sum_at [] i v e = absurd (some-ne-none v (sym e))
  sum_at (x ∷ xs) zero v e = let same : f x ≡ f v = ap f (some-injective x v e) in omega (arith, sum_by-cons f x xs)
  sum_at (x ∷ xs) (suc i) v e = let rest = sum_at xs i v e in omega (arith, sum_by-cons f x xs)

  pub sum_two : (l : List A) (i j : ℕ) (v w : A) → j ≢ i → get_elem? l i ≡ some v → get_elem? l j ≡ some w → f v + f w ≤ sum_by f l
  sum_two [] i j v w apart e g = absurd (some-ne-none v (sym e))
  sum_two (x ∷ xs) zero zero v w apart e g = absurd (apart refl)
  sum_two (x ∷ xs) zero (suc j) v w apart e g = let same : f x ≡ f v = ap f (some-injective x v e) in let rest = sum_at xs j w g in omega (arith, sum_by-cons f x xs)
  sum_two (x ∷ xs) (suc i) zero v w apart e g = let same : f x ≡ f w = ap f (some-injective x w g) in let rest = sum_at xs i v e in omega (arith, sum_by-cons f x xs)
  sum_two (x ∷ xs) (suc i) (suc j) v w apart e g = let rest = sum_two xs i j v w (λ h. apart (ap suc h)) e g in omega (arith, sum_by-cons f x xs)

  pub sum_map : {B : Type 0} (g : B → A) (h : B → ℕ) → ((b : B) → f (g b) ≡ h b) → (l : List B) → sum_by f (map g l) ≡ sum_by h l
  sum_map g h same [] = refl
  sum_map g h same (b ∷ bs) = let rest = sum_map g h same bs in let one = same b in omega (arith, sum_by-cons f (g b) (map g bs), sum_by-cons h b bs)

module _ {A : Type 0} where
  pub each_append : (P : A → Type 0) (xs ys : List A) → Each P xs → Each P ys → Each P (xs ++ ys)
  each_append P [] ys p q = q
  each_append P (x ∷ xs) ys p q = (p.0, each_append P xs ys p.1 q)

  pub each_map : {B : Type 0} (P : A → Type 0) (Q : B → Type 0) (g : A → B) → ((a : A) → P a → Q (g a)) → (l : List A) → Each P l → Each Q (map g l)
  each_map P Q g step [] p = tt
  each_map P Q g step (x ∷ xs) p = (step x p.0, each_map P Q g step xs p.1)

  pub prefix_self : (xs : List A) → IsPrefix xs xs
  prefix_self xs = ([], append-nil xs)

  pub prefix_trans : (xs ys zs : List A) → IsPrefix xs ys → IsPrefix ys zs → IsPrefix xs zs
  prefix_trans xs ys zs p q = (p.0 ++ q.0, sym (append_assoc xs p.0 q.0) ∙ (ap (λ w. w ++ q.0) p.1 ∙ q.1))

pub kept-append : (xs ys : List Entry) (c : ℕ) → kept (xs ++ ys) c ≡ kept xs c ++ kept ys c
kept-append xs ys c = ap (map call_of) (filter-append (λ (e : Entry). e.caller == c) xs ys) ∙ map-append call_of _ _

-- entries of one caller are none of another's
pub kept_none : (xs : List Entry) (c k : ℕ) → Each (λ (e : Entry). e.caller ≡ c) xs → k ≢ c → kept xs k ≡ []
kept_none [] c k all other = refl
kept_none (e ∷ es) c k all other = let no : (e.caller == k) ≡ false = ne_eqb e.caller k (λ h. other (sym h ∙ all.0)) in rw no (kept_none es c k all.1 other)

pub callers_of_one : (xs : List Entry) (c n : ℕ) → c < n → Each (λ (e : Entry). e.caller ≡ c) xs → Each (λ (e : Entry). e.caller < n) xs
callers_of_one [] c n below all = tt
callers_of_one (e ∷ es) c n below all = let is = all.0 in (omega arith, callers_of_one es c n below all.1)

abbrev pub is_number : ℕ → Facts → ℕ
is_number k f = cond (f.number == k) 1 0

pub same_number : (f : Facts) (c : ℕ) → f.number ≡ c → is_number c f ≡ 1
same_number f c is = rw (eq-eqb f.number c is)

pub fresh_more : (i : Instance) (k n : ℕ) → fresh_seats i k (n + 1) ≡ fresh_seats i k n ++ fresh_standing i (k + n) ∷ []
fresh_more i k n = rw add-one (more i k n)
  where
    more : (i : Instance) (k n : ℕ) → fresh_seats i k (suc n) ≡ fresh_seats i k n ++ fresh_standing i (k + n) ∷ []
    more i k zero = ap (λ (m : ℕ). fresh_standing i m ∷ []) (sym (add-zero k))
    more i k (suc n) = ap (λ l. fresh_standing i k ∷ l) (more i (suc k) n ∙ ap (λ (m : ℕ). fresh_seats i (suc k) n ++ fresh_standing i m ∷ []) (omega arith))

pub fresh_next : (o : Origin) (k n : ℕ) → k < n → fresh o k (n - k) ≡ record { origin = o; number = k; seen = []; mine = [] } ∷ fresh o (k + 1) (n - (k + 1))
fresh_next o k n l = let e : n - k ≡ suc (n - (k + 1)) = omega arith in ap (fresh o k) e ∙ ap (λ (m : ℕ). record { origin = o; number = k; seen = []; mine = [] } ∷ fresh o m (n - (k + 1))) (sym (add-one k))

pub fresh_length : (i : Instance) (k n : ℕ) → length (fresh_seats i k n) ≡ n
fresh_length i k zero = refl
fresh_length i k (suc n) = ap suc (fresh_length i (suc k) n)

pub kept_length : (h : List Entry) (c : ℕ) → length (kept h c) ≤ length h
kept_length h c = omega (arith, length-map (filter (λ (e : Entry). e.caller == c) h) call_of, length-filter (λ (e : Entry). e.caller == c) h, count_by-le-length (λ (e : Entry). e.caller == c) h)

pub fresh_belong : (i : Instance) (k n : ℕ) → All (λ (s : Standing). s.instance ≡ i) (fresh_seats i k n)
fresh_belong i k zero = All-nil (λ (s : Standing). s.instance ≡ i)
fresh_belong i k (suc n) = All-cons (λ (s : Standing). s.instance ≡ i) (fresh_standing i k) (fresh_seats i (suc k) n) refl (fresh_belong i (suc k) n)
