-- What a source means and whether it is well typed, by what the names in its text stand for.
use Rattle.std.specs.Prelude.{Bool, true, IsTrue, List, Option, Some, None, flat_map, map, option_map}
use Rattle.std.specs.List.{list_all}
use Rattle.lus_syntax.specs.Trees.{Named, Constant, Group, Node as SourceNode}
use Rattle.lus_values.specs.Lists.{Each}
use Rattle.lus_values.specs.declared.test.Test.{Test}
use Rattle.lus_program.specs.Programs.{Node, Variable}
use Rattle.lus_program.specs.Resolved.{test_fits}
use Rattle.lus_source.specs.Heads.{heads, head}
use Rattle.lus_source.specs.Scopes.{Scope}
use Rattle.lus_source.specs.Sized.{variable_count}
use Rattle.lus_source.specs.Tables.{groups, value_in}
use Rattle.lus_source.specs.Meaning.{equations_meant, test_meant}
use Rattle.lus_source.specs.WellTyped.{memory_fits, value_is}
use Rattle.lus_source.specs.ByTable.{kind_in}
use Rattle.lus_types.specs.Wholes.{EquationTyped}

-- a constant with a declared type has that type
abbrev pub constant_fits : Scope → Constant → Bool
constant_fits s c = elim c.type_name [ None ↦ true | Some y ↦ value_is (value_in s.constructors c.value) (kind_in s.types y) ]

-- the variable of this name that a group declares
abbrev pub variable_in : Scope → Group → Named → Variable
variable_in s g n = record { name = n.text; kind = kind_in s.types g.type_name; test = option_map (test_meant s) g.test }

-- the variables that a group declares
abbrev pub variables_in : Scope → Group → List Variable
variables_in s g = map (variable_in s g) g.names

-- whether a test fits, where there is one
abbrev pub maybe_fits : Scope → Option Test → Bool
maybe_fits s o = elim o [ None ↦ true | Some t ↦ test_fits (heads s) (head s) t ]

-- whether the tests of a group's variables fit
abbrev pub group_fits : Scope → Group → Bool
group_fits s g = list_all (λ v. maybe_fits s v.test) (variables_in s g)

-- the node that is meant
abbrev pub node_in : Scope → SourceNode → Node
node_in s f = record {
  kind = f.kind;
  name = f.name.text;
  inputs = variable_count f.inputs;
  outputs = variable_count f.outputs;
  variables = flat_map (variables_in s) (groups f);
  equations = equations_meant s 0 f.equations;
}

-- its tests and equations fit, and it keeps no memory that it may not
pub record IsTypedIn (s : Scope) (f : SourceNode) : Type 0 where
  pub tests : IsTrue (list_all (group_fits s) (groups f))
  pub equations : Each (EquationTyped s) f.equations
  pub memory : IsTrue (memory_fits f.kind s f.equations)
