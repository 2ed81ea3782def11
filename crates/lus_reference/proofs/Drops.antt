-- Items behind others.
use Rattle.std.proofs.Common.{◌≡◌, ℕ, zero, suc, ◌+◌, List, [], ◌∷◌, drop, map, refl, sym, ap, ◌∙◌, arith}
use Rattle.std.proofs.Math.Seq.{drop-nil}

pub dropped : {X : Type 0} (m n : ℕ) (xs : List X) → drop (m + n) xs ≡ drop n (drop m xs)
dropped zero n xs = let same : 0 + n ≡ n = omega arith in ap (λ k. drop k xs) same
dropped (suc m) n [] = drop-nil (suc m + n) ∙ sym (drop-nil n)
dropped (suc m) n (x ∷ xs) = let same : suc m + n ≡ suc (m + n) = omega arith in ap (λ k. drop k (x ∷ xs)) same ∙ dropped m n xs

pub dropped_next : {X : Type 0} (n : ℕ) (xs : List X) → drop (suc n) xs ≡ drop n (drop 1 xs)
dropped_next n [] = sym (drop-nil n)
dropped_next n (x ∷ xs) = refl

pub dropped_map : {X Y : Type 0} (f : X → Y) (n : ℕ) (xs : List X) → map f (drop n xs) ≡ drop n (map f xs)
dropped_map f zero xs = refl
dropped_map f (suc n) [] = refl
dropped_map f (suc n) (x ∷ xs) = dropped_map f n xs
