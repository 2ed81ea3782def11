-- Causality (Halbwachs, Caspi, Raymond and Pilaud 1991, on cyclic definitions): which variables a variable needs at the
-- same instant, and the orders that have them first.
use Rattle.std.specs.Prelude.{ℕ, Bool, false, ◌||◌, nat_eq, List, [], ◌∷◌, ◌++◌, map, length, Option, Some, None, IsTrue}
use Rattle.lus_values.specs.Lists.{Each, Below}
use Rattle.lus_program.specs.Programs.{Expression, literal, variable, operate, pre, arrow, when, merge, call, Operands, none, more, Node, Program}
use Rattle.lus_streams.specs.Clocks.{Clock, clock_of}
use Rattle.lus_streams.specs.Equations.{Definition, given_by, definition_of}

-- the variables of an expression, tests included, outside the operand of each `pre`; each output of a call needs all that
-- its arguments need
abbrev mutual
  pub needs : Expression → List ℕ
  needs (literal v) = []
  needs (variable x) = x ∷ []
  needs (operate o es) = needs_all es
  needs (pre a) = []
  needs (arrow a b) = needs a ++ needs b
  needs (when t a) = t.variable ∷ needs a
  needs (merge x bs) = x ∷ needs_all bs
  needs (call g c args) = needs_all args

  pub needs_all : Operands → List ℕ
  needs_all none = []
  needs_all (more e es) = needs e ++ needs_all es

abbrev pub clock_variables : Clock → List ℕ
clock_variables k = map (λ t. t.variable) k

abbrev pub needs_right : Option Definition → List ℕ
needs_right None = []
needs_right (Some (given_by e n xs k)) = needs e

-- what x needs in node f: the variables that its clock tests, and what its right side needs
abbrev pub needed : Node → ℕ → List ℕ
needed f x = clock_variables (clock_of f x) ++ needs_right (definition_of f x)

abbrev pub is_in : List ℕ → ℕ → Bool
is_in [] x = false
is_in (y ∷ ys) x = nat_eq x y || is_in ys x

-- each variable of a list, the last first, has what it needs before it
abbrev pub HasNeedsFirst : Node → List ℕ → Type 0
HasNeedsFirst f [] = Unit {0}
HasNeedsFirst f (x ∷ earlier) = Each (λ y. IsTrue (is_in earlier y)) (needed f x) × HasNeedsFirst f earlier

-- an order of all variables of a node, the last first
pub record IsOrder (f : Node) (order : List ℕ) : Type 0 where
  pub first : HasNeedsFirst f order
  pub all : Below (length f.variables) (λ x. IsTrue (is_in order x))

abbrev pub HasOrder : Node → Type 0
HasOrder f = (order : List ℕ) × IsOrder f order

-- a program is causal where each node has an order
abbrev pub IsCausal : Program → Type 0
IsCausal p = Each HasOrder p.nodes
