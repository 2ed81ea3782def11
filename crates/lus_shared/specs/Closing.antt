-- What a node leaves when it is closed.
use Rattle.std.specs.Prelude.{◌≡◌, ◌==◌, ◌<◌, ◌≤◌, ℕ, List, [], ◌∷◌, ◌++◌, length}
use Rattle.std.specs.List.{sum_by, count_by}
use mathlib.Core.List.{IsPrefix}
use Rattle.lus_requests.specs.declared.request.Entry.{Entry}
use Rattle.lus_shared.specs.Knowledge.{IsLegalHistory, Facts, Instance, Standing, kept}
use Rattle.lus_values.specs.Lists.{Each}

-- each number below n is one seat's
pub record HaveEach (n : ℕ) (seats : List Standing) : Type 0 where
  pub once : (k : ℕ) → k < n → count_by (λ s. s.number == k) seats ≡ 1

-- the seats' numbers are those below n, each once
pub record AreAll (n : ℕ) (seats : List Standing) : Type 0 where
  pub once : (k : ℕ) → k < n → count_by (λ s. s.number == k) seats ≡ 1
  pub no_other : (k : ℕ) → n ≤ k → count_by (λ s. s.number == k) seats ≡ 0

-- the history begins with what the seat has seen, and has its calls and no others of its number
pub record IsPartOf (h : List Entry) (s : Standing) : Type 0 where
  pub seen : IsPrefix s.seen h
  pub mine : kept h s.number ≡ s.mine

-- the history of the instance, with the calls of its seats, which are these, and no others
pub record Closed (i : Instance) (seats : List Standing) (h : List Entry) : Type 0 where
  pub legal : IsLegalHistory i.origin h
  pub all : AreAll i.origin.callers seats
  pub parts : Each (IsPartOf h) seats
  pub shares : sum_by (λ s. length s.mine) seats ≡ length h

abbrev pub facts_from : Standing → Facts
facts_from s = record { origin = s.instance.origin; number = s.number; seen = s.seen; mine = s.mine }

-- the facts of these seats, joined from the last to the first
abbrev pub all_facts : List Standing → List Facts
all_facts [] = []
all_facts (s ∷ ss) = all_facts ss ++ facts_from s ∷ []
