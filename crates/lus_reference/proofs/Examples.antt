-- What is kept of a counter, and what its right side comes to.
use Rattle.std.proofs.Common.{◌≡◌, [], ◌∷◌, Some, None, refl, rules}
use Rattle.lus_values.specs.Values.{nil, Row}
use Rattle.lus_program.specs.Programs.{Program}
use Rattle.lus_streams.specs.Equations.{node_parts}
use Rattle.lus_streams.proofs.Examples.{program, some, count, counter, counted}
use Rattle.lus_reference.specs.Kept.{Keeps}
use Rattle.lus_reference.specs.Made.{made}

-- n = 0 -> pre n + 1, whose parts are `->`, 0, `+`, `pre`, n and 1
abbrev p : Program
p = program (counter ∷ [])

-- behind the first instant: the right operand of `->` was nil then
abbrev kept : Row
kept = some 0 ∷ some 0 ∷ Some nil ∷ Some nil ∷ some 0 ∷ some 1 ∷ []

kept_of_first : Keeps p (counted 0 ∷ []) (node_parts p counter) kept
kept_of_first = search rules

-- made of the values of the operands of `->`, at the first instant and at the second
first_is_zero : made p (None ∷ []) [] (count 0) (some 0 ∷ Some nil ∷ []) None ≡ some 0
first_is_zero = refl

second_is_one : made p (None ∷ []) [] (count 0) (some 0 ∷ some 1 ∷ []) (some 0) ≡ some 1
second_is_one = refl
