-- Which programs are on clocks (Lustre V6 reference manual, "Clocks").
use Rattle.std.specs.Prelude.{◌≡◌, ℕ, suc, ◌+◌, ◌<◌, List, [], ◌∷◌, ◌++◌, length, Option, Some, None}
use Rattle.lus_values.specs.Lists.{item, Each, Below}
use Rattle.lus_values.specs.declared.test.Test.{Test}
use Rattle.lus_program.specs.Programs.{Expression, variable, when, merge, call, Operands, none, more, Equation, Node, Program, no_variable, node_at}
use Rattle.lus_streams.specs.Clocks.{Clock, clock_of, Part, at, operand, renamed_clock, base_of, parts}
use Rattle.lus_streams.specs.Equations.{Definition, given_by, equation_clock}

-- x may be tested by y: an input by an input, an output by an input or an output, a local by any variable
abbrev pub MayTest : Node → ℕ → ℕ → Type 0
MayTest f x y = (x < f.inputs → y < f.inputs) × (x < f.inputs + f.outputs → y < f.inputs + f.outputs)

-- the clock of x is its test after the clock of the test's variable: so declared clocks aren't circular
abbrev pub IsDeclared : Node → ℕ → Option Test → Type 0
IsDeclared f x None = Unit {0}
IsDeclared f x (Some t) = (clock_of f x ≡ t ∷ clock_of f t.variable) × MayTest f x t.variable

-- the test with which a variable is declared
abbrev pub test_of : Node → ℕ → Option Test
test_of f x = (item no_variable f.variables x).test

abbrev pub variables : List ℕ → Operands
variables [] = none
variables (x ∷ xs) = more (variable x) (variables xs)

-- what stands for the formals of a call, as the called node numbers its inputs and outputs: the arguments, then the
-- variables on the left
abbrev pub actuals : Operands → List ℕ → Operands
actuals none xs = variables xs
actuals (more e es) xs = more e (actuals es xs)

abbrev pub IsName : Expression → Type 0
IsName (variable x) = Unit {0}
IsName _ = ⊥

-- what stands for a formal that the declared clock of an input or an output tests is a variable
abbrev pub NamesFormals : Node → Operands → Type 0
NamesFormals g args = Below (g.inputs + g.outputs) (λ m. Each (λ t. IsName (operand args t.variable)) (clock_of g m))

-- output n of a call with this base is on k: k is the base followed by the output's tests
abbrev pub OutputOn : Node → ℕ → Operands → List ℕ → Clock → Clock → Type 0
OutputOn g n args xs base k = (k ≡ renamed_clock (actuals args xs) (clock_of g (g.inputs + n)) ++ base) × NamesFormals g (actuals args xs)

module _ (p : Program) (f : Node) where
  -- a defined variable is on the clock of its right side; of a call, each output gives the one base
  abbrev pub DefinedOnClock : ℕ → Option Definition → Type 0
  DefinedOnClock x None = Unit {0}
  DefinedOnClock x (Some (given_by (call g c args) n xs k)) = OutputOn (node_at p g) n args xs (base_of (node_at p g) k) (clock_of f x)
  DefinedOnClock x (Some (given_by e n xs k)) = clock_of f x ≡ k

  -- the variables on the left of an equation, the first of which is output n, are on the clocks that the right side gives them
  abbrev pub LeftOnClock : Equation → ℕ → List ℕ → Type 0
  LeftOnClock q n [] = Unit {0}
  LeftOnClock q n (x ∷ xs) = DefinedOnClock x (Some (given_by q.right n q.targets (equation_clock f q))) × LeftOnClock q (suc n) xs

  -- what a part asks of its clock: a variable is on it, `when` has its test and its variable on the rest, a merge its
  -- variable on it, a call its output; a literal takes the clock of its place, the other forms ask nothing of their own
  abbrev pub PartOnClock : Part → Type 0
  PartOnClock (at k (variable x)) = clock_of f x ≡ k
  PartOnClock (at k (when t a)) = k ≡ t ∷ clock_of f t.variable
  PartOnClock (at k (merge x bs)) = clock_of f x ≡ k
  PartOnClock (at k (call g c args)) = OutputOn (node_at p g) 0 args [] (base_of (node_at p g) k) k
  PartOnClock _ = Unit {0}

  -- of a call that is a whole right side the variables on the left speak
  abbrev pub RightOnClock : List Part → Type 0
  RightOnClock (at k (call g c args) ∷ es) = Each PartOnClock es
  RightOnClock es = Each PartOnClock es

  -- declared clocks, equations and calls of a node are on clocks
  pub record IsOnClocks : Type 0 where
    pub declared : Below (length f.variables) (λ x. IsDeclared f x (test_of f x))
    pub lefts : Each (λ q. LeftOnClock q 0 q.targets) f.equations
    pub rights : Each (λ q. RightOnClock (parts p q.right (equation_clock f q))) f.equations

abbrev pub ProgramOnClocks : Program → Type 0
ProgramOnClocks p = Each (IsOnClocks p) p.nodes
