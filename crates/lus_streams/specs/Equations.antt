-- The equations of a node (Halbwachs, Caspi, Raymond and Pilaud 1991, on variables and equations): how each variable is
-- defined, what stands on the right sides, and which calls stand there.
use Rattle.std.specs.Prelude.{ℕ, suc, nat_eq, List, [], ◌∷◌, ◌++◌, Option, Some, None, if◌then◌else◌}
use Rattle.lus_values.specs.Lists.{item}
use Rattle.lus_program.specs.Programs.{Expression, call, Operands, Equation, Node, Program, node_at}
use Rattle.lus_streams.specs.Clocks.{Clock, clock_of, Part, at, base_of, parts}

-- a variable is output n of a right side with these variables on the left, the first of which is on this clock
pub data Definition : Type 0 where
  given_by : Expression → ℕ → List ℕ → Clock → Definition

-- the place of a variable on a left side, counted from n
abbrev pub place_in : ℕ → List ℕ → ℕ → Option ℕ
place_in x [] n = None
place_in x (y ∷ ys) n = if nat_eq x y then Some n else place_in x ys (suc n)

-- the clock of an equation: that of its first variable on the left
abbrev pub equation_clock : Node → Equation → Clock
equation_clock f q = clock_of f (item 0 q.targets 0)

-- what defines a variable: the equation with it on the left
abbrev pub definition_in : Node → List Equation → ℕ → Option Definition
definition_in f [] x = None
definition_in f (q ∷ qs) x = elim (place_in x q.targets 0) [ None ↦ definition_in f qs x | Some n ↦ Some (given_by q.right n q.targets (equation_clock f q)) ]

abbrev pub definition_of : Node → ℕ → Option Definition
definition_of f x = definition_in f f.equations x

-- every expression in the text of a node, with its own clock
abbrev pub equation_parts : Program → Node → List Equation → List Part
equation_parts p f [] = []
equation_parts p f (q ∷ qs) = parts p q.right (equation_clock f q) ++ equation_parts p f qs

abbrev pub node_parts : Program → Node → List Part
node_parts p f = equation_parts p f f.equations

-- a call in the text, with its base clock: the called node has an instance of its own for each
pub record Site : Type 0 where
  pub node : ℕ
  pub number : ℕ
  pub args : Operands
  pub base : Clock

-- a part before some calls: one more call, where it is one
abbrev pub site_first : Program → Part → List Site → List Site
site_first p (at k (call g c args)) ss = record { node = g; number = c; args = args; base = base_of (node_at p g) k } ∷ ss
site_first p _ ss = ss

-- the calls among these parts
abbrev pub sites_in : Program → List Part → List Site
sites_in p [] = []
sites_in p (e ∷ es) = site_first p e (sites_in p es)

-- the calls of a node, in the order of its text
abbrev pub sites : Program → Node → List Site
sites p f = sites_in p (node_parts p f)
