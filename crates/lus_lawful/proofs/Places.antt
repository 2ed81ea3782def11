-- Places in a list.
use Rattle.std.proofs.Common.{◌≡◌, ◌++◌, ◌⊎◌, inl, inr, refl, ap, ap₂, sym, List, [], ◌∷◌}

-- two items with what is before them are one place, or one stands before the other
pub places : {A : Type 0} (xs ys us vs : List A) (x y : A) → xs ++ x ∷ us ≡ ys ++ y ∷ vs
    → ((xs ≡ ys) × (x ≡ y)) ⊎ (((mid : List A) × (ys ≡ xs ++ x ∷ mid)) ⊎ ((mid : List A) × (xs ≡ ys ++ y ∷ mid)))
places [] [] us vs x y same = let heads : x ≡ y = cc in inl (refl, heads)
places [] (b ∷ ys) us vs x y same = let heads : b ≡ x = cc in inr (inl (ys, ap (λ c. c ∷ ys) heads))
places (a ∷ xs) [] us vs x y same = let heads : a ≡ y = cc in inr (inr (xs, ap (λ c. c ∷ xs) heads))
places (a ∷ xs) (b ∷ ys) us vs x y same =
    let heads : a ≡ b = cc in
    let tails : xs ++ x ∷ us ≡ ys ++ y ∷ vs = cc in
    elim (places xs ys us vs x y tails) [
      | inl here ↦ inl (ap₂ (λ c cs. c ∷ cs) heads here.0, here.1)
      | inr (inl later) ↦ inr (inl (later.0, ap₂ (λ c cs. c ∷ cs) (sym heads) later.1))
      | inr (inr before) ↦ inr (inr (before.0, ap₂ (λ c cs. c ∷ cs) heads before.1))
    ]
