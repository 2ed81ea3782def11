-- Seats that are together are of one instance.
use Rattle.std.proofs.Common.{◌≡◌, ℕ, zero, suc, ◌<◌, List, [], ◌∷◌, ◌++◌, length, reverse, refl, sym, ap, ◌∙◌, append_assoc, arith, slice_index_or}
use Rattle.std.proofs.lemmas.List.{reverse-append}
use Rattle.std.proofs.lemmas.List.Elements.{All-nil}
use Rattle.std.specs.List.{All}
use Rattle.lus_shared.specs.Knowledge.{Instance, Standing, origin_with}
use Rattle.lus_shared.specs.Views.{fresh_seats}
use Rattle.lus_shared.specs.MachineSpecs.Machines.{Told}
use Rattle.lus_shared.specs.Trait.{untold}
use Rattle.lus_foreign.specs.Seated.{Seated, standings, AreOpened, AreMates, Together, Belongs, IsMate, NumbersTell, IsAt}

with_first : (s : Seated) (ss : List Seated) → All (AreMates s) ss → (k : ℕ) (d : Seated) → k < length (s ∷ ss) → (slice_index_or (s ∷ ss) k d).standing.instance ≡ s.standing.instance
with_first s ss t zero d lt = refl
with_first s ss t (suc k) d lt = (t k d (omega (arith, lt))).instance

pub at_one : (ss : List Seated) → Together ss → (i : Instance) × All (λ (s : Seated). s.standing.instance ≡ i) ss
at_one [] t = (untold.instance, All-nil _)
at_one (s ∷ ss) t = (s.standing.instance, with_first s ss t)

pub together : (n : ℕ) (i : Instance) (ss : List Seated) → All (IsAt n i) ss → Together ss
together n i [] h = tt
together n i (s ∷ ss) h = λ k d lt.
    let first = h 0 d (omega arith) in let other = h (suc k) d (omega (arith, lt)) in
    record { id = other.0 ∙ sym first.0; instance = other.1 ∙ sym first.1 }

pub belongs : (ss : List Seated) (t : Seated) → IsMate ss t → NumbersTell ss t → Belongs ss t
belongs [] t m e = tt
belongs (s ∷ ss) t m e = record { id = sym m; instance = e m }

-- the last of the seats that are left goes behind those that are told the last first
pub handed : (all seats rest : List Standing) (places : List Seated) (p : Seated) → all ≡ seats ++ standings (reverse places) → seats ≡ rest ++ p.standing ∷ [] → all ≡ rest ++ standings (reverse (places ++ p ∷ []))
handed all seats rest places p e q =
    e ∙ ap (λ (l : List Standing). l ++ standings (reverse places)) q ∙ append_assoc rest (p.standing ∷ []) (standings (reverse places))
    ∙ ap (λ (l : List Seated). rest ++ standings l) (sym (reverse-append places (p ∷ [])))

pub opened : (machine : Told) (callers id : ℕ) (i : Instance) (ss : List Seated) → i.origin ≡ origin_with machine callers → fresh_seats i 0 callers ≡ standings (reverse ss) → All (IsAt id i) ss → AreOpened machine callers id ss
opened machine callers id i ss o s a = record { instance = i; origin = o; seats = sym s; ids = λ k d lt. (a k d lt).0 }
