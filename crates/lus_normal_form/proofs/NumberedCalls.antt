-- Where calls are numbered by their places, the instant of each is found by its number.
use Rattle.std.proofs.Common.{◌≡◌, ◌∙◌, sym, ap, ℕ, suc, ◌+◌, Bool, List, [], ◌∷◌, arith}
use Rattle.lus_values.specs.Values.{Row}
use Rattle.lus_streams.specs.Equations.{Site}
use Rattle.lus_streams.specs.Streams.{Instant, instant, Called, nobody, also, called_at, called_instant}
use Rattle.lus_normal_form.specs.Named.{Numbered}

-- at the number of each call stands the called instant at its place
abbrev pub Stands : (ℕ → Instant) → Called → List Site → Type 0
Stands found nobody ss = Unit {0}
Stands found (also j js) [] = Unit {0}
Stands found (also j js) (s ∷ ss) = (found s.number ≡ j) × Stands found js ss

stands_from : (found : ℕ → Instant) (n : ℕ) (js : Called) (ss : List Site) → ((c : ℕ) → found (n + c) ≡ called_at js c) → Numbered n ss → Stands found js ss
stands_from found n nobody ss h k = tt
stands_from found n (also j js) [] h k = tt
stands_from found n (also j js) (s ∷ ss) h k =
    let here : n + 0 ≡ n = omega arith in
    (ap found k.0 ∙ ap found (sym here) ∙ h 0, stands_from found (suc n) js ss (λ c. let next : suc n + c ≡ n + suc c = omega arith in ap found next ∙ h (suc c)) k.1)

pub numbered_stands : (b : Bool) (row : Row) (js : Called) (ss : List Site) → Numbered 0 ss → Stands (λ c. called_instant c (instant b row js)) js ss
numbered_stands b row js ss k = stands_from (λ c. called_instant c (instant b row js)) 0 js ss (λ c. let here : 0 + c ≡ c = omega arith in ap (called_at js) here) k
