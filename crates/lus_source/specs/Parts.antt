-- The rules of names, part by part.
use Rattle.std.specs.Prelude.{[], ◌++◌, ◌&&◌, Bool, IsTrue}
use Rattle.std.specs.List.{list_all}
use Rattle.lus_values.specs.Lists.{Each}
use Rattle.lus_syntax.specs.Trees.{Group, Node, Tree}
use Rattle.lus_source.specs.Tables.{groups}
use Rattle.lus_source.specs.Named.{DefinitionNamed, Distinct, Known, NodeNamed, constant_known, defined_names, has_left, is_in, known, knows, left_names, names_in, test_known, type_known}

-- what stands for something in a node's text
abbrev pub in_node : Known → Node → Known
in_node k f = record k { variables = names_in (groups f) }

-- the type and the clock of a declaration
abbrev pub group_known : Known → Group → Bool
group_known k g = type_known k.types g.type_name && test_known k g.test

-- the declarations and the right sides of a node
abbrev pub node_known : Known → Node → Bool
node_known k f = list_all (group_known k) (groups f) && list_all (λ q. knows k q.right) f.equations

-- each output and each local stands on exactly one left side, once, and no left side is empty
pub record LeftsNamed (f : Node) : Type 0 where
  pub distinct : Distinct (left_names f)
  pub defined : IsTrue (list_all (is_in (defined_names f)) (left_names f))
  pub whole : IsTrue (list_all (is_in (left_names f)) (defined_names f))
  pub some : IsTrue (list_all has_left f.equations)

-- no name is declared twice in its space
pub record AreDistinct (p : Tree) : Type 0 where
  pub types : Distinct (known p []).types
  pub values : Distinct ((known p []).constants ++ (known p []).constructors)
  pub nodes : Distinct (known p []).nodes

-- what each declaration uses is among these names
pub record UsesKnown (k : Known) (p : Tree) : Type 0 where
  pub definitions : Each (λ d. DefinitionNamed k.types d.definition) p.types
  pub constants : IsTrue (list_all (constant_known k) p.constants)
  pub nodes : Each (λ f. NodeNamed (in_node k f) f) p.nodes
