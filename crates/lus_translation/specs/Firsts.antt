-- First-flags of a class: expressions that mark a first instant share one where their clocks have the same newest test.
use Rattle.std.specs.Prelude.{ℕ, suc, ◌&&◌, nat_eq, nat_lt, Bool, true, false, List, [], ◌∷◌, ◌++◌, length, Option, Some, None, if◌then◌else◌}
use Rattle.lus_values.specs.declared.test.Test.{Test}

abbrev pub same_test : Option Test → Option Test → Bool
same_test None None = true
same_test (Some t) (Some u) = nat_eq t.variable u.variable && nat_eq t.constructor u.constructor
same_test t u = false

-- where a test stands first; past the others, if it doesn't
abbrev pub place_of : Option Test → List (Option Test) → ℕ
place_of t [] = 0
place_of t (u ∷ us) = if same_test t u then 0 else suc (place_of t us)

-- tests with one more, unless it is among them
abbrev pub with_one : List (Option Test) → Option Test → List (Option Test)
with_one ts t = if nat_lt (place_of t ts) (length ts) then ts else ts ++ t ∷ []

abbrev pub with_all : List (Option Test) → List (Option Test) → List (Option Test)
with_all ts [] = ts
with_all ts (u ∷ us) = with_all (with_one ts u) us

-- the test that a table of first-flags keeps as its two numbers
abbrev pub first_seen : Option (ℕ × ℕ) → Option Test
first_seen None = None
first_seen (Some k) = Some (record { variable = k.0; constructor = k.1 })
