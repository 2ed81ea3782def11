-- Where the equations that define the variables of a node stand, as the code holds it.
use Rattle.std.specs.Prelude.{◌≡◌, ℕ, zero, suc, ◌+◌, ◌<◌, List, [], ◌∷◌, length, Option, Some, None}
use Rattle.lus_values.specs.Lists.{item}
use Rattle.lus_program.specs.Parts.{parts as count}
use Rattle.lus_program.specs.Programs.{calls}
use Rattle.lus_program.specs.View.{expression_of}
use Rattle.lus_program.specs.declared.node.Equation.{Equation as StoredEquation}
use Rattle.lus_program.specs.declared.node.Node.{Node as StoredNode}
use Rattle.lus_streams.specs.Equations.{place_in}
use Rattle.lus_reference.specs.declared.places.Place.{Place}

-- the place of what defines variable x, where i equations, m parts and n calls stand before these equations
abbrev pub placed_in : List StoredEquation → ℕ → (i m n : ℕ) → Option Place
placed_in [] x i m n = None
placed_in (q ∷ qs) x i m n =
    elim (place_in x q.targets.items 0) [
      | Some t ↦ Some (record { equation = i; parts = m; calls = n; target = t })
      | None ↦ placed_in qs x (suc i) (m + count (expression_of q.right)) (n + calls (expression_of q.right))
    ]

abbrev pub place_of : StoredNode → ℕ → Option Place
place_of f x = placed_in f.equations.items x 0 0 0

-- these are the places of what defines the variables of a node
pub record ArePlaces (f : StoredNode) (places : List (Option Place)) : Type 0 where
  pub count : length places ≡ length f.variables.items
  pub each : (x : ℕ) → x < length places → item None places x ≡ place_of f x

abbrev pub blank : ℕ → List (Option Place)
blank zero = []
blank (suc n) = None ∷ blank n

-- the place of variable x, if it has none yet
abbrev pub set_first : List (Option Place) → ℕ → Place → List (Option Place)
set_first [] x k = []
set_first (None ∷ os) zero k = Some k ∷ os
set_first (Some l ∷ os) zero k = Some l ∷ os
set_first (o ∷ os) (suc x) k = o ∷ set_first os x k

-- those of the variables from place t on on a left side
abbrev pub set_targets : List (Option Place) → List ℕ → (i m n t : ℕ) → List (Option Place)
set_targets os [] i m n t = os
set_targets os (y ∷ ys) i m n t = set_targets (set_first os y (record { equation = i; parts = m; calls = n; target = t })) ys i m n (suc t)
