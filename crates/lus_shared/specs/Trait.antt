-- What every shared machine promises, also where its calls do not tell what they did.
use Rattle.std.specs.Prelude.{◌≡◌, ◌==◌, ◌<◌, ◌≤◌, ℕ, List, [], ◌∷◌, ◌++◌, length}
use Rattle.std.specs.List.{sum_by, count_by}
use Rattle.lus_program.specs.Programs.{Program}
use Rattle.lus_requests.specs.declared.request.Entry.{Entry}
use Rattle.lus_requests.specs.declared.request.Request.{Request}
use Rattle.lus_requests.specs.declared.request.Reply.{Reply}
use Rattle.lus_machine.specs.Machines.{IsLegal, entry}
use Rattle.lus_shared.specs.Knowledge.{Standing}
use Rattle.lus_shared.specs.Views.{unknown}

-- the history of some node of an accepted program ends in this entry
pub record EndsIn (number : ℕ) (request : Request) (reply : Reply) : Type 0 where
  pub program : Program
  pub node : ℕ
  pub before : List Entry
  pub legal : IsLegal record { program = program; node = node; history = before ++ entry number request reply ∷ [] }

-- the numbers of these seats are those below n, each once
pub record EachOnce {S : Type 0} (number : S → ℕ) (n : ℕ) (seats : List S) : Type 0 where
  pub once : (k : ℕ) → k < n → count_by (λ s. number s == k) seats ≡ 1
  pub no_other : (k : ℕ) → n ≤ k → count_by (λ s. number s == k) seats ≡ 0

-- these seats, all of a node's, made as many calls as the history has entries
pub record HaveMade {S : Type 0} (number made : S → ℕ) (callers : ℕ) (seats : List S) (h : List Entry) : Type 0 where
  pub all : EachOnce number callers seats
  pub counted : sum_by made seats ≡ length h

-- a history of some node of an accepted program, with as many entries as the seats, which are all of the node's, made calls
pub record Gathered {S : Type 0} (number made : S → ℕ) (callers : ℕ) (seats : List S) (h : List Entry) : Type 0 where
  pub program : Program
  pub node : ℕ
  pub legal : IsLegal record { program = program; node = node; history = h }
  pub all : EachOnce number callers seats
  pub counted : sum_by made seats ≡ length h

-- what stands in where a node or a seat does not tell
abbrev pub untold : Standing
untold = record { instance = record { table = record { words = 0; slots = 0; views_name = 0; atom = 0; block = 0; offset = 0; slot_names = [] }; origin = unknown.origin }; number = 0; seen = []; mine = [] }
