-- In which turn the calls of a node can run: each behind those in its arguments, where the variables that it needs were found.
use Rattle.std.specs.Prelude.{◌≡◌, ◌<◌, ℕ, suc, zero, List, [], ◌∷◌, ◌++◌, length, Contains, IsTrue, Option, Some, None}
use Rattle.lus_values.specs.Lists.{Each}
use Rattle.lus_program.specs.Programs.{Expression, literal, variable, operate, pre, arrow, when, merge, call, Operands, none, more, Node}
use Rattle.lus_streams.specs.Equations.{Definition, given_by, definition_of, Site}
use Rattle.lus_streams.specs.Order.{clock_variables, needs_all, is_in}
use Rattle.lus_reference.specs.Needed.{all_calls_now}

-- the calls of an expression outside of the operand of each `pre`, each behind those in its arguments
abbrev mutual
  pub calls_in_turn : Expression → List ℕ
  calls_in_turn (literal v) = []
  calls_in_turn (variable x) = []
  calls_in_turn (operate o es) = all_calls_in_turn es
  calls_in_turn (pre a) = []
  calls_in_turn (arrow a b) = calls_in_turn a ++ calls_in_turn b
  calls_in_turn (when t a) = calls_in_turn a
  calls_in_turn (merge x bs) = all_calls_in_turn bs
  calls_in_turn (call g c args) = all_calls_in_turn args ++ c ∷ []

  pub all_calls_in_turn : Operands → List ℕ
  all_calls_in_turn none = []
  all_calls_in_turn (more e es) = calls_in_turn e ++ all_calls_in_turn es

abbrev pub turns_in : Option Definition → List ℕ
turns_in None = []
turns_in (Some (given_by e n xs k)) = calls_in_turn e

-- those of the right side that defines variable x
abbrev pub turns_of : Node → ℕ → List ℕ
turns_of f x = turns_in (definition_of f x)

-- the numbers below n, the last first
abbrev pub below : ℕ → List ℕ
below zero = []
below (suc n) = n ∷ below n

-- among all calls of a node, where the variables that were found meet P
module _ (all : List Site) (P : ℕ → Type 0) where
  -- a call can run behind these
  abbrev pub CanRun : ℕ → List ℕ → Type 0
  CanRun c before =
      (s : Site) → Contains all s → s.number ≡ c
      → Each P (clock_variables s.base) × Each P (needs_all s.args) × Each (λ d. d < length all → IsTrue (is_in before d)) (all_calls_now s.args)

  -- these can run one behind another
  abbrev pub CanRunInTurn : List ℕ → List ℕ → Type 0
  CanRunInTurn before [] = Unit {0}
  CanRunInTurn before (c ∷ cs) = CanRun c before × CanRunInTurn (c ∷ before) cs
