-- What the tables of a source say of its constants and nodes is what the source says.
use Rattle.std.proofs.Common.{◌≡◌, ◌∙◌, ap, ap₂, sym, List, true, map, flat_map}
use Rattle.std.specs.Prelude.{None, Some, option_map}
use Rattle.std.specs.List.{list_all}
use Rattle.lus_syntax.specs.Trees as tree
use Rattle.lus_program.specs.declared.types.Kind.{Kind}
use Rattle.lus_source.specs.Scopes.{Scope}
use Rattle.lus_source.specs.Tables.{groups, kind_named, literal_value, scope, tables}
use Rattle.lus_source.specs.Meaning.{equations_meant, node_meant, test_meant, variables_of}
use Rattle.lus_source.specs.WellTyped.{constant_typed, value_is}
use Rattle.lus_types.specs.ByScope.{constant_fits, node_in, variables_in}
use Rattle.lus_source.proofs.OfSource.{kind_in-tables}
use Rattle.lus_source.proofs.Placing.{length-kinds_by}

module _ (p : tree.Tree) where
  pub constants_are : (s : Scope) (cs : List tree.Constant) → s ≡ tables p → cs ≡ p.constants → list_all (constant_fits s) cs ≡ list_all (constant_typed p) p.constants
  constants_are s cs scoped same =
      ap₂ (λ t ds. list_all (constant_fits t) ds) scoped same
      ∙ ap (λ (kind : tree.TypeName → Kind). list_all (λ (c : tree.Constant). elim c.type_name [ None ↦ true | Some y ↦ value_is (literal_value p c.value) (kind y) ]) p.constants) (kind_in-tables p)

  pub variables_are : (f : tree.Node) (gs : List tree.Group) → flat_map (variables_in (scope p f)) gs ≡ flat_map (variables_of p (scope p f)) gs
  variables_are f gs = ap (λ (kind : tree.TypeName → Kind). flat_map (λ g. map (λ n. record { name = n.text; kind = kind g.type_name; test = option_map (test_meant (scope p f)) g.test }) g.names) gs) (kind_in-tables p)

  pub node_is : (f : tree.Node) → node_in (scope p f) f ≡ node_meant p f
  node_is f = λ i. record {
    kind = f.kind;
    name = f.name.text;
    inputs = sym (length-kinds_by (kind_named p) f.inputs) i;
    outputs = sym (length-kinds_by (kind_named p) f.outputs) i;
    variables = variables_are f (groups f) i;
    equations = equations_meant (scope p f) 0 f.equations;
  }
