-- Items of lists.
use Rattle.std.proofs.Common.{◌≡◌, ℕ, zero, suc, List, [], ◌∷◌, drop, map, slice_set, Contains, refl, ap, subst, arith, not-suc-le-zero}
use Rattle.lus_values.specs.Lists.{Each}

-- what holds of each item holds of one among them
pub each_among : {X : Type 0} (P : X → Type 0) (xs : List X) (x : X) → Each P xs → Contains xs x → P x
each_among P [] x h (n, lt, e) = absurd (not-suc-le-zero lt)
each_among P (y ∷ ys) x h (zero, lt, e) = subst P e h.0
each_among P (y ∷ ys) x h (suc n, lt, e) = each_among P ys x h.1 (n, omega (arith, lt), e)

pub each_from : {X : Type 0} (P : X → Type 0) (xs : List X) → ((x : X) → Contains xs x → P x) → Each P xs
each_from P [] h = tt
each_from P (x ∷ xs) h = (h x (0, omega arith, refl), each_from P xs (λ y c. h y (suc c.0, omega (arith, c.1), c.2)))

-- and of the first of those that are left
pub each_left_at : {X : Type 0} (P : X → Type 0) (i : ℕ) (xs rest : List X) (x : X) → drop i xs ≡ x ∷ rest → Each P xs → P x
each_left_at P zero [] rest x e h = absurd (cc)
each_left_at P (suc i) [] rest x e h = absurd (cc)
each_left_at P zero (y ∷ ys) rest x e h = let same : y ≡ x = cc in subst P same h.0
each_left_at P (suc i) (y ∷ ys) rest x e h = each_left_at P i ys rest x e h.1

pub map_set : {X Y : Type 0} (f : X → Y) (xs : List X) (n : ℕ) (x : X) → map f (slice_set xs n x) ≡ slice_set (map f xs) n (f x)
map_set f [] n x = refl
map_set f (y ∷ ys) zero x = refl
map_set f (y ∷ ys) (suc n) x = ap (λ l. f y ∷ l) (map_set f ys n x)
