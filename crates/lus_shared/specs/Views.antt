-- How contracts see seats: from the view at the table.
use mathlib.Core.List.{IsPrefix}
use Rattle.std.specs.Prelude.{◌≡◌, ◌*◌, ◌≤◌, ℕ, zero, suc, true, false, List, [], ◌∷◌, ◌++◌, length}
use Rattle.atomic_table.specs.Table.{Me}
use Rattle.atomic_table.specs.Seated.{TableId}
use Rattle.lus_requests.specs.declared.request.Entry.{Entry}
use Rattle.lus_requests.specs.declared.request.Request.{Request}
use Rattle.lus_requests.specs.declared.request.Reply.{Reply}
use Rattle.lus_machine.specs.Machines.{Told, full, entry}
use Rattle.lus_shared.specs.Knowledge.{IsLegalHistory, machine_at, Facts, Sight, Instance, Standing, kept}

-- no seat has these; they stand in where a view has no seat
abbrev pub unknown : Facts
unknown = record { origin = record { program = record { types = []; nodes = [] }; node = 0; callers = 0 }; number = 0; seen = []; mine = [] }

abbrev pub facts_of : List Facts → Facts
facts_of [] = unknown
facts_of (f ∷ fs) = f

abbrev pub standing_of : TableId → Facts → Standing
standing_of table f = record { instance = record { table = table; origin = f.origin }; number = f.number; seen = f.seen; mine = f.mine }

-- a seat that is not the taker
pub record IsSeated (table : TableId) (m : Me Told Sight) (number share : ℕ) : Type 0 where
  pub words : table.words ≡ 1
  pub slots : table.slots ≡ 1
  pub alone : m ≡ (record { taker = false; seats = facts_of m.0.seats ∷ [] }, [])
  pub number_is : (facts_of m.0.seats).number ≡ number
  pub share_is : length (facts_of m.0.seats).mine ≡ share

-- the same seat, which now has seen n entries, a legal history that begins with what it had seen; its own calls are as before
pub record Sees (v w : Standing) (n : ℕ) : Type 0 where
  pub instance : w.instance ≡ v.instance
  pub same_number : w.number ≡ v.number
  pub mine : w.mine ≡ v.mine
  pub begins : IsPrefix v.seen w.seen
  pub count : length w.seen ≡ n
  pub legal : IsLegalHistory v.instance.origin w.seen
  pub own : kept w.seen w.number ≡ w.mine

-- the k-th seat of a node that was just opened
abbrev pub fresh_standing : Instance → ℕ → Standing
fresh_standing i k = record { instance = i; number = k; seen = []; mine = [] }

-- the seats from the number k on, n of them
abbrev pub fresh_seats : Instance → ℕ → ℕ → List Standing
fresh_seats i k zero = []
fresh_seats i k (suc n) = fresh_standing i k ∷ fresh_seats i (suc k) n

-- the same seat after its call: it has seen a legal history that begins with what it had seen and ends in the call, which its own calls have gained
pub record Adds (v w : Standing) (request : Request) (reply : Reply) : Type 0 where
  pub instance : w.instance ≡ v.instance
  pub same_number : w.number ≡ v.number
  pub mine : w.mine ≡ v.mine ++ record { request = request; reply = reply } ∷ []
  pub ends : (before : List Entry) × IsPrefix v.seen before × (w.seen ≡ before ++ entry v.number request reply ∷ [])
  pub legal : IsLegalHistory v.instance.origin w.seen
  pub own : kept w.seen w.number ≡ w.mine

-- a seat that is the taker, where the word was 2n before
pub record IsTaker (table : TableId) (m : Me Told Sight) (number share found : ℕ) : Type 0 where
  pub words : table.words ≡ 1
  pub slots : table.slots ≡ 1
  pub view : let f = facts_of m.0.seats in m ≡ (record { taker = true; seats = f ∷ [] }, (0, (machine_at f.origin f.seen)) ∷ [])
  pub number_is : (facts_of m.0.seats).number ≡ number
  pub share_is : length (facts_of m.0.seats).mine ≡ share
  pub found_is : found ≡ 2 * length (facts_of m.0.seats).seen
  pub legal : IsLegalHistory (facts_of m.0.seats).origin (facts_of m.0.seats).seen
  pub short : length (facts_of m.0.seats).seen ≤ full
  pub own : kept (facts_of m.0.seats).seen (facts_of m.0.seats).number ≡ (facts_of m.0.seats).mine

-- the same seat, which may have seen more, and made no call
pub record IsLater (v w : Standing) : Type 0 where
  pub instance : w.instance ≡ v.instance
  pub same_number : w.number ≡ v.number
  pub mine : w.mine ≡ v.mine
  pub begins : IsPrefix v.seen w.seen
