-- What a place at the table has after a step, for the functions that make it.
use Rattle.std.specs.Prelude.{◌≡◌, ◌+◌, ◌*◌, ◌≤◌, ℕ, true, false, List, [], ◌∷◌, ◌++◌, length}
use mathlib.Core.List.{IsPrefix}
use Rattle.atomic_table.specs.Table.{Me}
use Rattle.lus_requests.specs.declared.request.Entry.{Entry}
use Rattle.lus_machine.specs.Machines.{Told, full}
use Rattle.lus_shared.specs.Knowledge.{IsLegalHistory, machine_at, Facts, Sight, kept}
use Rattle.lus_values.specs.Lists.{Each}
use Rattle.lus_shared.specs.Views.{facts_of}

abbrev pub Sat : Type 0
Sat = Me Told Sight

-- seats that are joined, none of them the taker
abbrev pub seats_at : List Facts → Sat
seats_at fs = (record { taker = false; seats = fs }, [])

abbrev pub seat_at : Facts → Sat
seat_at f = (record { taker = false; seats = f ∷ [] }, [])

-- the taker, with its slot at this value
abbrev pub taker_at : Facts → Told → Sat
taker_at f m = (record { taker = true; seats = f ∷ [] }, (0, m) ∷ [])

abbrev pub its_facts : Sat → Facts
its_facts m = facts_of m.0.seats

abbrev pub IsAlone : Sat → Type 0
IsAlone m = m ≡ seat_at (its_facts m)

abbrev pub with_seen : List Entry → Facts → Facts
with_seen h f = record { origin = f.origin; number = f.number; seen = h; mine = f.mine }

-- the history h is legal and begins with what the seat has seen, and the seat's calls are those that it has of its number
pub record Knows (f : Facts) (h : List Entry) : Type 0 where
  pub legal : IsLegalHistory f.origin h
  pub short : length h ≤ full
  pub begins : IsPrefix f.seen h
  pub own : kept h f.number ≡ f.mine

-- the seat has seen the history that the word n shows
pub record Looked (f : Facts) (m : Sat) (n : ℕ) : Type 0 where
  pub history : List Entry
  pub knows : Knows f history
  pub view : m ≡ seat_at (with_seen history f)
  pub even : 2 * length history ≤ n
  pub odd : n ≤ 2 * length history + 1

-- the seat has seen the history, and is the taker, with the machine
pub record Took (f : Facts) (m : Sat) (n : ℕ) : Type 0 where
  pub history : List Entry
  pub knows : Knows f history
  pub view : m ≡ taker_at (with_seen history f) ((machine_at f.origin history))
  pub count : n ≡ 2 * length history

-- the machine may be given back with this word: it has the entries that the seat has seen, and then more of its own number
pub record CanGive (f : Facts) (machine : Told) (word : ℕ) : Type 0 where
  pub rest : List Entry
  pub same : machine ≡ machine_at f.origin (f.seen ++ rest)
  pub by : Each (λ (e : Entry). e.caller ≡ f.number) rest
  pub legal : IsLegalHistory f.origin (f.seen ++ rest)
  pub short : length (f.seen ++ rest) ≤ full
  pub even : word ≡ 2 * length (f.seen ++ rest)

abbrev pub given : Facts → List Entry → Facts
given f h = record { origin = f.origin; number = f.number; seen = h; mine = kept h f.number }
