-- Equations that are stored the same have the same numbers of calls.
use Rattle.std.proofs.Common.{◌≡◌, ◌∙◌, ◌+◌, ℕ, List, [], ◌∷◌, map, refl, sym, ap}
use Rattle.lus_program.specs.declared.node.Equation.{Equation as StoredEquation}
use Rattle.lus_program.specs.Programs.{Equation, calls, numbered}
use Rattle.lus_program.specs.View.{equations_from, expression_of}
use Rattle.lus_same.specs.Stored.{Stored, stored}

with_numbers : ℕ → Stored → Equation
with_numbers n q = record { targets = q.targets; right = numbered n q.right }

all_with_numbers : ℕ → List Stored → List Equation
all_with_numbers n [] = []
all_with_numbers n (q ∷ qs) = with_numbers n q ∷ all_with_numbers (n + calls q.right) qs

numbers_are : (n : ℕ) (qs : List StoredEquation) → equations_from n qs ≡ all_with_numbers n (map stored qs)
unfolding all_with_numbers with_numbers
numbers_are n [] = refl
numbers_are n (q ∷ qs) = ap (λ (rest : List Equation). with_numbers n (stored q) ∷ rest) (numbers_are (n + calls (expression_of q.right)) qs)

pub same_numbered : (qs rs : List StoredEquation) → map stored qs ≡ map stored rs → equations_from 0 qs ≡ equations_from 0 rs
same_numbered qs rs same = numbers_are 0 qs ∙ ap (all_with_numbers 0) same ∙ sym (numbers_are 0 rs)
