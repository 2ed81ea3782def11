-- The rule of a seated machine, between any two steps.
use Rattle.std.specs.Prelude.{◌≡◌, ◌==◌, ◌+◌, ◌*◌, ◌<◌, ◌≤◌, ℕ, zero, suc, true, false, cond, List, [], ◌∷◌, length, slice_index}
use Rattle.std.specs.List.{sum_by, count_by}
use mathlib.Core.Option.{some}
use mathlib.Core.List.{IsPrefix}
use lib.ListN.{get_elem?}
use Rattle.atomic_table.specs.Table.{State}
use Rattle.lus_requests.specs.declared.request.Entry.{Entry}
use Rattle.lus_values.specs.Lists.{Each}
use Rattle.lus_machine.specs.Machines.{Told, full}
use Rattle.lus_shared.specs.Knowledge.{Origin, IsLegalHistory, machine_at, Facts, Sight, kept}

-- how many seats are takers
abbrev pub takers : List Sight → ℕ
takers views = sum_by (λ v. cond v.taker 1 0) views

-- how often a number stands in a view, and in all views
abbrev pub times : ℕ → Sight → ℕ
times k v = count_by (λ f. f.number == k) v.seats

abbrev pub holders : ℕ → List Sight → ℕ
holders k views = sum_by (times k) views

-- the history begins with what the seat has seen, and has the calls that it made and no others of its number
pub record FitsOne (o : Origin) (h : List Entry) (f : Facts) : Type 0 where
  pub same : f.origin ≡ o
  pub seen : IsPrefix f.seen h
  pub mine : kept h f.number ≡ f.mine
  pub mine_seen : kept f.seen f.number ≡ f.mine

-- a taker is one seat, and has seen the whole history
pub record Fits (o : Origin) (h : List Entry) (v : Sight) : Type 0 where
  pub each : Each (FitsOne o h) v.seats
  pub taker : v.taker ≡ true → (f : Facts) × (v.seats ≡ f ∷ []) × (f.seen ≡ h)

pub record Sound (o : Origin) (s : State Told Sight) : Type 0 where
  pub history : List Entry
  pub one_word : length s.words ≡ 1
  pub one_slot : length s.homes ≡ 1
  -- the word is 2n, or 2n + 1 while a seat is the taker
  pub word : slice_index s.words 0 ≡ 2 * length history + takers s.views
  pub at_most_one : takers s.views ≤ 1
  -- at 2n the machine at home has the n entries
  pub home : takers s.views ≡ 0 → get_elem? s.homes 0 ≡ some (some ((machine_at o history)))
  pub legal : IsLegalHistory o history
  pub short : length history ≤ full
  pub callers : Each (λ (e : Entry). e.caller < o.callers) history
  pub seats : (j : ℕ) (v : Sight) → get_elem? s.views j ≡ some v → Fits o history v
  -- the live seats' numbers are those below `callers`, each once
  pub once : (k : ℕ) → k < o.callers → holders k s.views ≡ 1
  pub below : (k : ℕ) → o.callers ≤ k → holders k s.views ≡ 0

-- the facts of seats that have seen nothing, n of them from the number k on
abbrev pub fresh : Origin → ℕ → ℕ → List Facts
fresh o k zero = []
fresh o k (suc n) = record { origin = o; number = k; seen = []; mine = [] } ∷ fresh o (suc k) n

abbrev pub opening_sight : Origin → Sight
opening_sight o = record { taker = false; seats = fresh o 0 o.callers }
