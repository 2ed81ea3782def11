-- What a node in normal form promises to what is made of it: its names are known, its calls have arguments for all inputs,
-- and each of its variables but the inputs has one definition.
use Rattle.std.specs.Prelude.{◌≡◌, ◌≢◌, ℕ, suc, ◌<◌, ◌≤◌, length, Some, None, slice_get}
use Rattle.lus_values.specs.Lists.{Each, Below}
use Rattle.lus_program.specs.Programs.{Expression, call, Operands, none, more, Equation, Node, Program, node_at}
use Rattle.lus_streams.specs.Clocks.{Part, at}
use Rattle.lus_streams.specs.Equations.{given_by, definition_of, equation_clock, node_parts}
use Rattle.lus_streams.specs.OnClock.{IsDeclared, IsOnClocks, ProgramOnClocks, test_of}
use Rattle.lus_program.specs.Resolved.{Resolved}
use Rattle.lus_normal_form.specs.Named.{IsNamed}
use Rattle.lus_normal_form.specs.NormalNodes.{IsSimpleNode}
use Rattle.lus_normal_form.specs.Computed.{HaveFormals}
use Rattle.lus_normal_form.specs.Nodes.{IsMadeFrom}

-- each variable is declared on a clock
abbrev pub Declared : Node → Type 0
Declared f = Below (length f.variables) (λ x. IsDeclared f x (test_of f x))

abbrev pub operand_size : Operands → ℕ
operand_size none = 0
operand_size (more e es) = suc (operand_size es)

-- a call has as many arguments as the called node has inputs
abbrev pub HasArguments : Program → Part → Type 0
HasArguments p (at k (call g c args)) = operand_size args ≡ (node_at p g).inputs
HasArguments p e = Unit {0}

-- the arguments of a whole right side that is a call stand for the inputs of the called node
abbrev pub RightHasFormals : Program → Expression → Type 0
RightHasFormals p (call g c args) = HaveFormals (node_at p g) args args 0
RightHasFormals p e = Unit {0}

-- what a node in normal form promises, the nodes that it calls included
pub record IsReady (p : Program) (f : Node) : Type 0 where
  pub simple : IsSimpleNode f
  pub callees : ProgramOnClocks p
  pub on_clocks : IsOnClocks p f
  pub named : IsNamed p f
  pub arguments : Each (HasArguments p) (node_parts p f)
  pub formals : Each (λ q. RightHasFormals p q.right) f.equations

-- an equation defines each variable on its left, as the output of its place
abbrev pub DefinesLeft : Node → Equation → Type 0
DefinesLeft f q =
    (o x : ℕ) → slice_get q.targets o ≡ Some x
    → (x < length f.variables) × (definition_of f x ≡ Some (given_by q.right o q.targets (equation_clock f q)))

-- a call has no more variables on its left than the called node has outputs
abbrev pub HasOutputs : Program → Expression → ℕ → Type 0
HasOutputs p (call g c args) n = n ≤ (node_at p g).outputs
HasOutputs p e n = Unit {0}

-- each equation defines its left side, and each variable is defined but the inputs
pub record IsDefined (p : Program) (f : Node) : Type 0 where
  pub lefts : Each (DefinesLeft f) f.equations
  pub outputs : Each (λ q. HasOutputs p q.right (length q.targets)) f.equations
  pub inputs : (x : ℕ) → x < f.inputs → definition_of f x ≡ None
  pub every : (x : ℕ) → f.inputs ≤ x → x < length f.variables → definition_of f x ≢ None

-- every node of a program is ready and defines its variables: each in the list, and the node of each number
pub record AreReady (p : Program) : Type 0 where
  pub each : Each (λ f. IsReady p f × IsDefined p f) p.nodes
  pub numbered : (g : ℕ) → IsReady p (node_at p g) × IsDefined p (node_at p g)

-- a program each of whose nodes is made from that of a resolved program on clocks is ready
abbrev pub MadeNodesAreReady : Type 0
MadeNodesAreReady =
    (p p' : Program) → Resolved p → ProgramOnClocks p → ((g : ℕ) → IsMadeFrom p (node_at p g) (node_at p' g))
    → AreReady p'
