-- What the class of a node promises besides that it belongs to the node.
use Rattle.std.specs.Prelude.{◌≡◌, ◌<◌, ◌≤◌, ℕ, List, Some, length, slice_get}
use Rattle.lus_values.specs.Lists.{Each}
use Rattle.lus_program.specs.Programs.{Expression, call, Node, Program, node_at}
use Rattle.lus_classes.specs.ClassesOf.{IsClassOf}
use Rattle.lus_normal_form.specs.NormalNodes.{node_memories, node_firsts}
use Rattle.lus_instructions.specs.declared.class.Call.{Call}
use Rattle.lus_instructions.specs.declared.class.Class.{Class}
use Rattle.lus_classes.specs.Turns.{HasTurns}
use Rattle.lus_classes.specs.Variables.{NamesVariables}
use Rattle.lus_classes.specs.View.{class_of}

-- a call is of a node of the program, and has an argument for each of its inputs
pub record CallsNode (p : Program) (q : Call) : Type 0 where
  pub known : q.node < length p.nodes
  pub arguments : length q.arguments.items ≡ (node_at p q.node).inputs

-- a right side that is no call has one variable on its left at most
abbrev pub HasOneLeft : Expression → ℕ → Type 0
HasOneLeft (call g c args) n = Unit {0}
HasOneLeft e n = n ≤ 1

abbrev pub HaveOneLeft : Node → Type 0
HaveOneLeft f = Each (λ q. HasOneLeft q.right (length q.targets)) f.equations

-- a class has no more cells than its node has memories, nor first-flags than marks of a first instant
pub record KeepsFew (f : Node) (c : Class) : Type 0 where
  pub cells : length c.cells.items ≤ node_memories f
  pub firsts : length c.firsts.items ≤ node_firsts f

-- a class belongs to node f of a program, has its outputs, names its own variables, makes its steps in their turns, calls nodes of the
-- program, and keeps no more than its node wants
pub record IsTurned (p : Program) (f : Node) (c : Class) : Type 0 where
  pub belongs : IsClassOf p f (class_of c)
  pub outputs : c.outputs ≡ f.outputs
  pub variables : NamesVariables c
  pub turns : HasTurns c
  pub calls : Each (CallsNode p) c.calls.items
  pub kept : HaveOneLeft f → KeepsFew f c

-- a class for each of the first n nodes, with its steps in their turns
pub record AreFirstTurned (p : Program) (n : ℕ) (classes : List Class) : Type 0 where
  pub size : length classes ≡ n
  pub each : (g : ℕ) (c : Class) → slice_get classes g ≡ Some c → IsTurned p (node_at p g) c

abbrev pub AreTurned : Program → List Class → Type 0
AreTurned p classes = AreFirstTurned p (length p.nodes) classes
