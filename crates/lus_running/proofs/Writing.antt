-- Items written over others, one after another.
use Rattle.std.proofs.Common.{◌≡◌, ℕ, zero, suc, ◌<◌, ◌≤◌, List, [], ◌∷◌, ◌++◌, length, map, take, drop, slice_set, append-nil, refl, ap, ap₂, ◌∙◌, arith}
use Rattle.std.proofs.lemmas.List.{drop_all, take_all}

-- behind the last of them
pub none_behind : {X Y : Type 0} (f : List X → List Y) (xs : List X) (ys : List Y) (i : ℕ) → length xs ≤ i → length ys ≤ i
    → f (take i xs) ++ drop i ys ≡ f xs
none_behind f xs ys i past long = ap₂ (λ a b. f a ++ b) (take_all i xs past) (drop_all i ys long) ∙ append-nil (f xs)

-- all to one value
pub next_back : {X : Type 0} (d : X) (xs : List X) (i : ℕ) → i < length xs → slice_set (map (λ x. d) (take i xs) ++ drop i xs) i d ≡ map (λ x. d) (take (suc i) xs) ++ drop (suc i) xs
next_back d [] i lt = absurd (omega arith)
next_back d (x ∷ xs) zero lt = refl
next_back d (x ∷ xs) (suc i) lt = ap (λ l. d ∷ l) (next_back d xs i (omega arith))
