-- Equations whose calls are numbered by their places, whatever numbers they had.
use Rattle.std.specs.Prelude.{◌≡◌, ℕ, ◌+◌, List, [], ◌∷◌}
use Rattle.lus_program.specs.Programs.{calls, numbered, Equation}
use Rattle.lus_normal_form.specs.Forms.{normal_equations}

-- from n on
abbrev pub renumbered : ℕ → List Equation → List Equation
renumbered n [] = []
renumbered n (q ∷ qs) = record { targets = q.targets; right = numbered n q.right } ∷ renumbered (n + calls q.right) qs

-- the calls of equations in normal form have the numbers of their source
abbrev pub NumbersStay : Type 0
NumbersStay = (w m : ℕ) (qs : List Equation) → renumbered m (normal_equations w qs) ≡ normal_equations w (renumbered m qs)
