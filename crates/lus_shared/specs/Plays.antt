-- What each step tells the seat that makes it.
use Rattle.std.specs.Prelude.{◌≡◌, ◌≢◌, ◌+◌, ◌*◌, ◌≤◌, ℕ, true, false, List, [], ◌∷◌, ◌++◌, map, length}
use Rattle.atomic_table.specs.Table.{Me, Step}
use Rattle.lus_requests.specs.declared.request.Entry.{Entry}
use Rattle.lus_machine.specs.Machines.{Told, full}
use Rattle.lus_shared.specs.Knowledge.{Origin, IsLegalHistory, machine_at, Facts, Sight, kept}
use Rattle.lus_values.specs.Lists.{Each}
use Rattle.lus_shared.specs.Rule.{FitsOne}

abbrev pub Sat : Type 0
Sat = Me Told Sight

-- each seat of the view has now seen these entries
abbrev pub seeing : List Entry → List Facts → List Facts
seeing h fs = map (λ f. record { origin = f.origin; number = f.number; seen = h; mine = f.mine }) fs

abbrev pub looking : List Entry → Sight → Sight
looking h v = record { taker = v.taker; seats = seeing h v.seats }

-- the machine of this origin has these entries, which the word n counts
pub record Shown (o : Origin) (h : List Entry) (n : ℕ) (v : Sight) : Type 0 where
  pub legal : IsLegalHistory o h
  pub short : length h ≤ full
  pub even : 2 * length h ≤ n
  pub odd : n ≤ 2 * length h + 1
  pub each : Each (FitsOne o h) v.seats

-- a load
abbrev pub looked : Step Told → Sat → ℕ → Sat → Type 0
looked st m n m' = (o : Origin) × (h : List Entry) × Shown o h n m.0 × (m' ≡ (looking h m.0, m.1))

-- an exchange from 2n to 2n + 1, which is won where the word was 2n
abbrev pub took : Step Told → Sat → ℕ → Sat → Type 0
took st m n m' =
    (o : Origin) × (h : List Entry) × Shown o h n m.0
    × (n ≡ st.first → (2 * length h ≡ n) × (m' ≡ (record { taker = true; seats = seeing h m.0.seats }, (0, (machine_at o h)) ∷ m.1)))
    × (n ≢ st.first → m' ≡ (looking h m.0, m.1))

-- a seat is no longer the taker, and knows the history of the machine that it gives back
abbrev pub knowing : List Entry → List Facts → List Facts
knowing h fs = map (λ f. record { origin = f.origin; number = f.number; seen = h; mine = kept h f.number }) fs

abbrev pub after_giving : Sight → List (ℕ × Told) → Sight
after_giving v ((k, m) ∷ cs) = record { taker = false; seats = knowing m.history v.seats }
after_giving v [] = v

-- a store, or a store back
abbrev pub gave : Step Told → Sat → ℕ → Sat → Type 0
gave st m n m' = m' ≡ (after_giving m.0 m.1, [])

-- joined views, and a view cut in two: a seat of its own for the first facts
abbrev pub joined : Sight → Sight → Sight
joined v w = record { taker = false; seats = v.seats ++ w.seats }

abbrev pub nobody : Sight
nobody = record { taker = false; seats = [] }

abbrev pub first_of : List Facts → List Facts
first_of [] = []
first_of (f ∷ fs) = f ∷ []

abbrev pub others_of : List Facts → List Facts
others_of [] = []
others_of (f ∷ fs) = fs

abbrev pub cut_first : Sight → Sight
cut_first v = record { taker = false; seats = first_of v.seats }

abbrev pub cut_others : Sight → Sight
cut_others v = record { taker = v.taker; seats = others_of v.seats }
