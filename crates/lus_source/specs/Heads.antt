-- What the types of a node's text depend on, as a program and a node: the program declares the source's types and its nodes have their
-- inputs and outputs; the node has the variables of the text. None has equations. Lustre V6 reference manual, "Types", "Nodes".
use Rattle.std.specs.Prelude.{◌++◌, List, [], Option, None, length, map}
use Rattle.lus_program.specs.declared.types.Kind.{Kind}
use Rattle.lus_program.specs.Programs.{Expression, Operands, Variable, Node, Program, empty_node}
use Rattle.lus_program.specs.Resolved.{kind_in, kinds_in}
use Rattle.lus_source.specs.Scopes.{Scope, Signature}

-- a variable of this type
abbrev pub of_kind : Kind → Variable
of_kind k = record { name = []; kind = k; test = None }

-- a node with these inputs and outputs
abbrev pub head_of : Signature → Node
head_of g = record {
  kind = g.kind;
  name = [];
  inputs = length g.inputs;
  outputs = length g.outputs;
  variables = map of_kind (g.inputs ++ g.outputs);
  equations = [];
}

module _ (s : Scope) where
  abbrev pub heads : Program
  heads = record { types = s.declared; nodes = map (λ e. head_of e.1) s.nodes }

  abbrev pub head : Node
  head = record empty_node { variables = map (λ e. of_kind e.1.kind) s.variables }

  -- the type of an expression of the program in a node's text
  abbrev pub kind_by : Expression → Option Kind
  kind_by e = kind_in heads head e

  abbrev pub kinds_by : Operands → Option (List Kind)
  kinds_by es = kinds_in heads head es
