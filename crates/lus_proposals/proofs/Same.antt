-- Lists of words that aren't as long as each other aren't the same.
use Rattle.std.specs.Prelude.{◌≡◌, ℕ, suc, Bool, true, false, ◌&&◌, List, [], ◌∷◌, length, refl}
use Rattle.std.specs.Borrow.{Bor}
use Rattle.std.specs.Str.{bytes_eq}
use Rattle.std.proofs.Common.{◌∙◌, ap}
use Rattle.lus_proposals.specs.Kept.{are_same}
use Rattle.lus_proposals.specs.Words.{texts}

and_false : (b : Bool) → false ≡ (b && false)
and_false true = refl
and_false false = refl

pub differ : (xs ys : List (Bor (List ℕ))) → ¬ (length xs ≡ length ys) → false ≡ are_same (texts xs) (texts ys)
differ [] [] h = absurd (h refl)
differ [] (y ∷ ys) h = refl
differ (x ∷ xs) [] h = refl
differ (x ∷ xs) (y ∷ ys) h =
    and_false (bytes_eq x.now y.now)
    ∙ ap (λ r. bytes_eq x.now y.now && r) (differ xs ys (λ e. h (ap suc e)))
