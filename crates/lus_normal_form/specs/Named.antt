-- What names, types and clocks promise of the text of a node: each variable in it is the node's, each call has an output,
-- and each equation defines its first variable.
use Rattle.std.specs.Prelude.{◌≡◌, ◌⊎◌, ℕ, suc, ◌+◌, ◌<◌, ◌≤◌, List, [], ◌∷◌, length, Option, Some, None}
use Rattle.lus_values.specs.Lists.{item, Each, Below}
use Rattle.lus_program.specs.Programs.{Expression, variable, when, merge, call, Equation, Node, Program, node_at}
use Rattle.lus_streams.specs.Clocks.{clock_of, Part, at}
use Rattle.lus_streams.specs.Equations.{Definition, given_by, equation_clock, definition_of, node_parts, Site, sites}
use Rattle.lus_streams.specs.Order.{clock_variables}

-- V says which variables are meant, C g c n which calls: call c, of node g, with its output n
module _ (V : ℕ → Type 0) (C : (g c n : ℕ) → Type 0) where
  -- what an expression itself names, its operands aside
  abbrev pub Names : Expression → Type 0
  Names (variable x) = V x
  Names (when t a) = V t.variable
  Names (merge x bs) = V x
  Names (call g c args) = C g c 0
  Names _ = Unit {0}

  -- the variables of a part and of its clock, and its call
  abbrev pub Uses : Part → Type 0
  Uses (at k e) = Each V (clock_variables k) × Names e

-- calls are numbered by their places, from n on
abbrev pub Numbered : ℕ → List Site → Type 0
Numbered n [] = Unit {0}
Numbered n (s ∷ ss) = (s.number ≡ n) × Numbered (suc n) ss

-- call c is one of these calls, and calls g
abbrev pub IsCalled : List Site → ℕ → ℕ → Type 0
IsCalled [] g c = ⊥
IsCalled (s ∷ ss) g c = ((s.node ≡ g) × (s.number ≡ c)) ⊎ IsCalled ss g c

-- f has this variable
abbrev pub Known : Node → ℕ → Type 0
Known f x = x < length f.variables

-- g has a variable for its output n
abbrev pub OutputKnown : Program → (g n : ℕ) → Type 0
OutputKnown p g n = Known (node_at p g) ((node_at p g).inputs + n)

-- call c of f calls g, which has output n
abbrev pub GivesOutput : Program → Node → (g c n : ℕ) → Type 0
GivesOutput p f g c n = IsCalled (sites p f) g c × OutputKnown p g n

-- a variable is given by an output that its call has, or is on the clock of its right side
abbrev pub DefinitionFits : Program → Node → ℕ → Option Definition → Type 0
DefinitionFits p f x None = Unit {0}
DefinitionFits p f x (Some (given_by (call g c args) n xs k)) = GivesOutput p f g c n
DefinitionFits p f x (Some (given_by e n xs k)) = clock_of f x ≡ k

-- an equation has a first variable on its left, and defines it
abbrev pub DefinesFirst : Node → Equation → Type 0
DefinesFirst f q = Known f (item 0 q.targets 0) × (definition_of f (item 0 q.targets 0) ≡ Some (given_by q.right 0 q.targets (equation_clock f q)))

-- f's inputs are its first variables, its calls have their places as numbers, and all that its text and its clocks name is f's
pub record IsNamed (p : Program) (f : Node) : Type 0 where
  pub inputs : f.inputs ≤ length f.variables
  pub numbered : Numbered 0 (sites p f)
  pub uses : Each (Uses (Known f) (GivesOutput p f)) (node_parts p f)
  pub clocks : Below (length f.variables) (λ x. Each (Known f) (clock_variables (clock_of f x)))
  pub definitions : Below (length f.variables) (λ x. DefinitionFits p f x (definition_of f x))
  pub equations : Each (DefinesFirst f) f.equations

-- every node is named
abbrev pub AreNamed : Program → Type 0
AreNamed p = (f : ℕ) → IsNamed p (node_at p f)
