-- What steps in turn read and give are variables.
use Rattle.std.proofs.Common.{◌≡◌, ℕ, ◌<◌, ◌≤◌, ◌++◌, ◌||◌, nat_eq, nat_lt, Bool, true, false, IsTrue, List, [], ◌∷◌, length, refl, sym, subst, arith}
use Rattle.std.proofs.lemmas.Bool.{eqb-true, ltb-true}
use Rattle.lus_values.specs.Lists.{Each}
use Rattle.lus_streams.specs.Order.{clock_variables}
use Rattle.lus_streams.proofs.Lists.{each_implies}
use Rattle.lus_classes.specs.Classes.{Step, clock_in, reads}
use Rattle.lus_classes.specs.Classes.{Class as PlainClass}
use Rattle.lus_classes.specs.ClassesOf.{InTurn}

-- all that a step reads and gives is a variable
pub record IsOfVariables (c : PlainClass) (s : Step) : Type 0 where
  pub target : s.target < length c.clocks
  pub reads_are : Each (λ x. x < length c.clocks) (clock_variables (clock_in c s.target) ++ reads c s.code)

module _ (c : PlainClass) where
  abbrev w : ℕ
  w = length c.clocks

  one_more : (known : ℕ → Bool) (y : ℕ) → y < w → ((x : ℕ) → IsTrue (known x) → x < w) → (x : ℕ) → IsTrue (nat_eq x y || known x) → x < w
  one_more known y lt all x h = by (nat_eq x y) refl h
    where
      by : (b : Bool) → nat_eq x y ≡ b → IsTrue (b || known x) → x < w
      by true same h = subst (λ z. z < w) (sym (eqb-true x y same)) lt
      by false other h = all x h

  in_turn : (ss : List Step) (known : ℕ → Bool) → ((x : ℕ) → IsTrue (known x) → x < w) → InTurn c ss known → Each (IsOfVariables c) ss
  in_turn [] known all turn = tt
  in_turn (s ∷ ss) known all turn = (
    record { target = turn.2; reads_are = each_implies (λ x. IsTrue (known x)) (λ x. x < w) all (clock_variables (clock_in c s.target) ++ reads c s.code) turn.0 },
    in_turn ss (λ x. nat_eq x s.target || known x) (one_more known s.target turn.2 all) turn.3,
  )

pub turns_are_of_variables : (c : PlainClass) → c.inputs ≤ length c.clocks → InTurn c c.steps (λ x. nat_lt x c.inputs) → Each (IsOfVariables c) c.steps
turns_are_of_variables c narrow turn =
    in_turn c c.steps (λ x. nat_lt x c.inputs) (λ x h. let lt : x < c.inputs = ltb-true x c.inputs h in omega (arith, lt, narrow)) turn
