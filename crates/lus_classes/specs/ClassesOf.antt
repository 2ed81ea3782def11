-- Which class belongs to a node in normal form: operands of `pre` and `when` and arguments are
-- constants and variables, and each call is a whole right side.
use Rattle.std.specs.Prelude.{◌≡◌, ℕ, suc, ◌+◌, ◌<◌, ◌≤◌, ◌⊎◌, ◌||◌, ◌++◌, nat_eq, nat_lt, Bool, false, List, [], ◌∷◌, length, drop, Option, Some, None, IsTrue, slice_get}
use Rattle.lus_values.specs.Lists.{Each}
use Rattle.lus_program.specs.Programs.{Expression, literal, variable, operate, pre, arrow, when, merge, call, Operands, none, more, Equation, Node, Program, node_at}
use Rattle.lus_streams.specs.Clocks.{Clock, clock_of, operand, formal_clock, base_of, branch_clock}
use Rattle.lus_streams.specs.Equations.{Definition, given_by, definition_of, equation_clock, Site, sites}
use Rattle.lus_streams.specs.OnClock.{IsName}
use Rattle.lus_streams.specs.Order.{clock_variables}
use Rattle.lus_classes.specs.Classes.{Atom, constant, named, Code, fixed, fetch, compute, recall, choose, select, answer, Codes, no_code, also_code, Step, Argument, Call, Class, class_at, clock_in, reads}

-- the expression that an atom is
abbrev pub atom_expression : Atom → Expression
atom_expression (constant v) = literal v
atom_expression (named x) = variable x

-- the code that gives what an atom holds
abbrev pub atom_code : Atom → Code
atom_code (constant v) = fixed v
atom_code (named x) = fetch x

module _ (p : Program) (f : Node) (c : Class) where
  -- an atom is on a clock: a constant on any, a variable on its own
  abbrev pub AtomOn : Atom → Clock → Type 0
  AtomOn (constant v) k = Unit {0}
  AtomOn (named x) k = (clock_of f x ≡ k) × (x < length f.variables)

  -- cell j keeps the operand a of a `pre` on k
  pub record Remembers (j : ℕ) (k : Clock) (a : Expression) : Type 0 where
    pub atom : Atom
    pub here : slice_get c.memories j ≡ Some (record { clock = k; operand = atom })
    pub same : a ≡ atom_expression atom
    pub on_clock : AtomOn atom k

  -- d is the code of a, which is an atom on k
  pub record IsAtomCode (d : Code) (k : Clock) (a : Expression) : Type 0 where
    pub atom : Atom
    pub same : a ≡ atom_expression atom
    pub code : d ≡ atom_code atom
    pub on_clock : AtomOn atom k

  -- a code belongs to an expression on k
  abbrev mutual
    pub IsCode : Expression → Code → Clock → Type 0
    IsCode (literal v) (fixed u) k = v ≡ u
    IsCode (variable x) (fetch y) k = x ≡ y
    IsCode (operate o es) (compute u ds) k = (o ≡ u) × AreCodes es ds (λ m. k) 0
    IsCode (pre a) (recall j) k = Remembers j k a
    IsCode (arrow a b) (choose j d later) k = (slice_get c.firsts j ≡ Some k) × IsCode a d k × IsCode b later k
    IsCode (when t a) d k = IsAtomCode d (drop 1 k) a
    IsCode (merge x bs) (select y ds) k = (x ≡ y) × AreCodes bs ds (branch_clock x k) 0
    IsCode _ _ k = ⊥

    -- codes belong to operands from number m on, each on the clock of its number
    pub AreCodes : Operands → Codes → (ℕ → Clock) → ℕ → Type 0
    AreCodes none no_code ks m = Unit {0}
    AreCodes (more e es) (also_code d ds) ks m = IsCode e d (ks m) × AreCodes es ds ks (suc m)
    AreCodes _ _ ks m = ⊥

  -- the arguments from formal m on, each on the clock of its formal
  abbrev pub AreArguments : Operands → List Argument → Node → Operands → Clock → ℕ → Type 0
  AreArguments none [] g args base m = Unit {0}
  AreArguments (more e es) (a ∷ rest) g args base m =
      (e ≡ atom_expression a.atom) × (a.clock ≡ formal_clock g args base m)
      × AtomOn a.atom (formal_clock g args base m) × AreArguments es rest g args base (suc m)
  AreArguments _ _ g args base m = ⊥

  -- z, on k, is a result of the call e, and v the variable of the called node that it is, past the inputs
  pub record IsResult (e : Expression) (xs : List ℕ) (first : Clock) (inputs z v : ℕ) (k : Clock) : Type 0 where
    pub output : ℕ
    pub place : v ≡ inputs + output
    pub within : z < length f.variables
    pub no_input : f.inputs ≤ z
    pub defined : definition_of f z ≡ Some (given_by e output xs first)
    pub on_clock : clock_of f z ≡ k

  -- z of the caller, on k, is v of the called node: an argument and its formal, or a result of the call and an output
  abbrev pub Meets : Call → Expression → List ℕ → Clock → ℕ → ℕ → ℕ → Clock → Type 0
  Meets q e xs first inputs z v k = (slice_get q.arguments v ≡ Some (record { clock = k; atom = named z })) ⊎ IsResult e xs first inputs z v k

  -- the clock k of a result is that of the output with the variables so replaced, on the call's base
  abbrev pub Matches : Call → Expression → List ℕ → Clock → ℕ → Clock → Clock → Type 0
  Matches q e xs first inputs k [] = k ≡ q.base
  Matches q e xs first inputs [] (t ∷ l) = ⊥
  Matches q e xs first inputs (u ∷ k) (t ∷ l) =
      (u.constructor ≡ t.constructor) × Meets q e xs first inputs u.variable t.variable k × Matches q e xs first inputs k l

  -- the code answers output m of the call e, whose first result is on k, to variable x
  pub record IsAnswer (e : Expression) (m : ℕ) (k : Clock) (x : ℕ) (d : Code) (xs : List ℕ) : Type 0 where
    pub node : ℕ
    pub number : ℕ
    pub args : Operands
    pub asked : Call
    pub right : e ≡ call node number args
    pub code : d ≡ answer number ((node_at p node).inputs + m)
    pub here : slice_get c.calls number ≡ Some asked
    pub same_node : asked.node ≡ node
    pub base : asked.base ≡ base_of (node_at p node) k
    pub arguments : AreArguments args asked.arguments (node_at p node) args (base_of (node_at p node) k) 0
    pub output : (node_at p node).inputs + m < length (node_at p node).variables
    pub front : Clock
    pub clock : clock_of f x ≡ front ++ base_of (node_at p node) k
    pub matches : Matches asked e xs k (node_at p node).inputs (clock_of f x) (clock_of (node_at p node) ((node_at p node).inputs + m))

  -- the code gives variable x what its definition says
  abbrev pub IsSource : ℕ → Option Definition → Code → Type 0
  IsSource x None d = ⊥
  IsSource x (Some (given_by e m xs k)) d = IsAnswer e m k x d xs ⊎ ((k ≡ clock_of f x) × IsCode e d k)

  -- a step gives its variable, which is no input, what its definition says
  pub record IsStep (s : Step) : Type 0 where
    pub source : IsSource s.target (definition_of f s.target) s.code
    pub within : s.target < length f.variables
    pub no_input : f.inputs ≤ s.target

  -- each test of a clock of g is on an input whose argument is a variable, and the tests after it are that input's clock
  abbrev pub Linked : Node → Operands → Clock → Type 0
  Linked g args [] = Unit {0}
  Linked g args (t ∷ k) = (t.variable < g.inputs) × IsName (operand args t.variable) × (k ≡ clock_of g t.variable) × Linked g args k

  -- call number n of the class is the call s of the text
  pub record IsCall (s : Site) (q : Call) (n : ℕ) : Type 0 where
    pub number : s.number ≡ n
    pub node : q.node ≡ s.node
    pub base : q.base ≡ s.base
    pub arguments : AreArguments s.args q.arguments (node_at p s.node) s.args s.base 0
    pub arity : length q.arguments ≡ (node_at p s.node).inputs
    pub linked : (x : ℕ) → x < (node_at p s.node).inputs → Linked (node_at p s.node) s.args (clock_of (node_at p s.node) x)

  -- the calls of the text, in its order, are those of the class from number n on
  abbrev pub AreCalls : List Site → List Call → ℕ → Type 0
  AreCalls [] [] n = Unit {0}
  AreCalls (s ∷ ss) (q ∷ qs) n = IsCall s q n × AreCalls ss qs (suc n)
  AreCalls _ _ n = ⊥

  -- a step gives the first variable of an equation, which the equation defines
  pub record IsCovered (q : Equation) : Type 0 where
    pub place : ℕ
    pub step : Step
    pub here : slice_get c.steps place ≡ Some step
    pub defined : definition_of f step.target ≡ Some (given_by q.right 0 q.targets (equation_clock f q))
    pub clock : equation_clock f q ≡ clock_of f step.target

-- each step reads what is known before it, and gives what isn't
abbrev pub InTurn : Class → List Step → (ℕ → Bool) → Type 0
InTurn c [] known = Unit {0}
InTurn c (s ∷ ss) known =
    Each (λ x. IsTrue (known x)) (clock_variables (clock_in c s.target) ++ reads c s.code)
    × (known s.target ≡ false) × (s.target < length c.clocks)
    × InTurn c ss (λ x. nat_eq x s.target || known x)

-- a step gives variable x
abbrev pub IsTarget : ℕ → List Step → Type 0
IsTarget x [] = ⊥
IsTarget x (s ∷ ss) = (x ≡ s.target) ⊎ IsTarget x ss

-- a class belongs to node f: it has the clocks of the variables, of which those of inputs test inputs alone; its steps give
-- each variable that is no input once, after all that they read, and cover each equation; its calls are those of the text;
-- what its memories keep is on their clocks
pub record IsClassOf (p : Program) (f : Node) (c : Class) : Type 0 where
  pub inputs : c.inputs ≡ f.inputs
  pub narrow : f.inputs ≤ length f.variables
  pub width : length c.clocks ≡ length f.variables
  pub clocks : (x : ℕ) → clock_in c x ≡ clock_of f x
  pub input_clocks : (x : ℕ) → x < f.inputs → Each (λ y. y < f.inputs) (clock_variables (clock_of f x))
  pub steps : Each (IsStep p f c) c.steps
  pub turns : InTurn c c.steps (λ x. nat_lt x f.inputs)
  pub every : (x : ℕ) → f.inputs ≤ x → x < length f.variables → IsTarget x c.steps
  pub covered : Each (IsCovered p f c) f.equations
  pub calls : AreCalls p f c (sites p f) c.calls 0
  pub memories : Each (λ m. AtomOn p f c m.operand m.clock) c.memories

-- the class at each node's number belongs to it
abbrev pub AreClassesOf : Program → List Class → Type 0
AreClassesOf p classes = (g : ℕ) → IsClassOf p (node_at p g) (class_at classes g)
