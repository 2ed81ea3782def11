-- What holds of each holds of one, and what holds of each one holds of each.
use Rattle.std.proofs.Common.{arith, ◌≡◌, ◌∙◌, ap, sym, subst, ℕ, zero, suc, ◌<◌, List, [], ◌∷◌, ◌++◌, length, map, Some, get_or, inl, inr}
use Rattle.std.proofs.lemmas.Bool.{cases_lt}
use Rattle.std.proofs.lemmas.List.{length-map, get_or-map}
use Rattle.std.specs.Prelude.{slice_get}
use Rattle.lus_values.specs.Lists.{Below, Each}

-- the item at a place
pub each_at : {X : Type 0} (P : X → Type 0) (xs : List X) (i : ℕ) (d : X) → i < length xs → Each P xs → P (get_or xs i d)
each_at P [] i d lt all = absurd (omega arith)
each_at P (x ∷ xs) zero d lt all = all.0
each_at P (x ∷ xs) (suc i) d lt all = each_at P xs i d (omega arith) all.1

-- what an item is seen as
pub each_seen : {X Y : Type 0} (seen : X → Y) (P : Y → Type 0) (xs : List X) (i : ℕ) (x : X) → i < length xs → x ≡ get_or xs i x → Each P (map seen xs) → P (seen x)
each_seen seen P xs i x lt here all =
    let read : get_or (map seen xs) i (seen x) ≡ seen x = get_or-map seen xs i x (seen x) lt ∙ ap seen (sym here) in
    subst P read (each_at P (map seen xs) i (seen x) (rw (length-map xs seen) lt) all)

-- lists one behind another
module _ {X : Type 0} (P : X → Type 0) where
  pub each_left : (xs ys : List X) → Each P (xs ++ ys) → Each P xs
  each_left [] ys h = tt
  each_left (x ∷ xs) ys h = (h.0, each_left xs ys h.1)

  pub each_right : (xs ys : List X) → Each P (xs ++ ys) → Each P ys
  each_right [] ys h = h
  each_right (x ∷ xs) ys h = each_right xs ys h.1

  pub each_append : (xs ys : List X) → Each P xs → Each P ys → Each P (xs ++ ys)
  each_append [] ys h k = k
  each_append (x ∷ xs) ys h k = (h.0, each_append xs ys h.1 k)

-- the item that stands at a place
pub each_found : {X : Type 0} (P : X → Type 0) (xs : List X) (i : ℕ) (x : X) → Each P xs → slice_get xs i ≡ Some x → P x
each_found P [] i x all e = cc
each_found P (y ∷ ys) zero x all e = let same : y ≡ x = cc in subst P same all.0
each_found P (y ∷ ys) (suc i) x all e = each_found P ys i x all.1 e

-- a number below n
pub below_at : (P : ℕ → Type 0) (n : ℕ) → Below n P → (x : ℕ) → x < n → P x
below_at P zero all x lt = absurd (omega arith)
below_at P (suc n) all x lt = elim (cases_lt x n) [ inl less ↦ below_at P n all.1 x less | inr last ↦ (let e : n ≡ x = omega arith in subst P e all.0) ]

pub below_all : (P : ℕ → Type 0) (n : ℕ) → ((x : ℕ) → x < n → P x) → Below n P
below_all P zero each = tt
below_all P (suc n) each = (each n (omega arith), below_all P n (λ x lt. each x (omega arith)))
