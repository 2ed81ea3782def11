-- Each table was empty, and has the names of its space.
use Rattle.std.proofs.Common.{◌∙◌, ap}
use Rattle.std.specs.Prelude.{is_none}
use Rattle.lus_syntax.specs.Trees.{Constant, Node, TypeDeclaration}
use Rattle.lus_syntax.specs.View.{constant_seen, node_seen, type_seen}
use Rattle.lus_source.specs.Named.{Known}
use Rattle.lus_source.specs.NameView.{texts}
use Rattle.lus_source.proofs.Faults.{passed_on}
use Rattle.lus_source.proofs.AppendedNames.{from_empty}
use Rattle.lus_source.proofs.DeclaredNames.{constant_twice, constructor_twice, constructors, constructors_are, each_distinct, each_there, one_twice, value_twice, values_distinct}
use Rattle.lus_source.proofs.declarations.declared.Goals as goal

pub returns-in_err-declare_all-clause-distinct : goal.returns-in_err-declare_all-clause-distinct
returns-in_err-declare_all-clause-distinct c =
    passed_on _ (λ doubled all. one_twice (λ (d : TypeDeclaration). d.name.text) type_seen c.args.tree.now.types.items (texts c.new-names.result.types.keys) (ap (λ (k : Known). k.types) c.new-names.ensures) doubled all.types) c.from_residual.result c.in_err-declare_all.field-0.0 c.from_residual.ensures.1 (rw c.deref.ensures.value at c.in_err-declare_all.ensures.new)

pub returns-in_err-declare_all-2-clause-distinct : goal.returns-in_err-declare_all-2-clause-distinct
returns-in_err-declare_all-2-clause-distinct c =
    passed_on _ (constant_twice c.args.tree.now (texts c.new-names.result.constants.keys) (ap (λ (k : Known). k.constants) c.new-names.ensures)) c.from_residual-in_err-declare_all-2.result c.in_err-declare_all-2.field-0.0 c.from_residual-in_err-declare_all-2.ensures.1 (rw c.deref-2.ensures.value at c.in_err-declare_all-2.ensures.new)

pub returns-in_err-declare_all-3-clause-distinct : goal.returns-in_err-declare_all-3-clause-distinct
returns-in_err-declare_all-3-clause-distinct c =
    passed_on _ (constructor_twice c.args.tree.now (texts c.new-names.result.constructors.keys) (ap (λ (k : Known). k.constructors) c.new-names.ensures)) c.from_residual-in_err-declare_all-3.result c.in_err-declare_all-3.field-0.0 c.from_residual-in_err-declare_all-3.ensures.1 (rw c.deref-3.ensures.value at c.in_err-declare_all-3.ensures.new)

pub returns-in_err-refuse-clause-distinct : goal.returns-in_err-refuse-clause-distinct
returns-in_err-refuse-clause-distinct c =
    passed_on _ (value_twice c.args.tree.now (texts c.new-names.result.constants.keys) (ap (λ (k : Known). k.constants) c.new-names.ensures) (texts c.declare_all-2.new.table.keys) (is_none c.doubled_value.result) (rw c.deref-2.ensures.value at c.in_ok-declare_all-2.ensures.kept) c.doubled_value.ensures)
    c.from_residual-in_err-refuse.result c.in_err-refuse.field-0.0 c.from_residual-in_err-refuse.ensures.1 c.in_err-refuse.ensures

pub returns-in_err-declare_all-4-clause-distinct : goal.returns-in_err-declare_all-4-clause-distinct
returns-in_err-declare_all-4-clause-distinct c =
    passed_on _ (λ doubled all. one_twice (λ (f : Node). f.name.text) node_seen c.args.tree.now.nodes.items (texts c.new-names.result.nodes.keys) (ap (λ (k : Known). k.nodes) c.new-names.ensures) doubled all.nodes) c.from_residual-in_err-declare_all-4.result c.in_err-declare_all-4.field-0.0 c.from_residual-in_err-declare_all-4.ensures.1 (rw c.deref-4.ensures.value at c.in_err-declare_all-4.ensures.new)

pub returns-clause-tables : goal.returns-clause-tables
returns-clause-tables c =
    let t = c.args.tree.now in
    let empty = c.new-names.ensures in
    let variables = ap (λ (k : Known). k.variables) empty in
    let constants = each_there (λ (k : Constant). k.name.text) constant_seen t.constants.items (texts c.new-names.result.constants.keys) (ap (λ (k : Known). k.constants) empty) (texts c.declare_all-2.new.table.keys) (rw c.deref-2.ensures.value at c.in_ok-declare_all-2.ensures.kept) in
    let constructors = from_empty (texts c.new-names.result.constructors.keys) (constructors t) (texts c.declare_all-3.new.table.keys) (ap (λ (k : Known). k.constructors) empty) (rw c.deref-3.ensures.value at c.in_ok-declare_all-3.ensures.kept) ∙ constructors_are t in
    let types = each_there (λ (d : TypeDeclaration). d.name.text) type_seen t.types.items (texts c.new-names.result.types.keys) (ap (λ (k : Known). k.types) empty) (texts c.declare_all.new.table.keys) (rw c.deref.ensures.value at c.in_ok-declare_all.ensures.kept) in
    let nodes = each_there (λ (f : Node). f.name.text) node_seen t.nodes.items (texts c.new-names.result.nodes.keys) (ap (λ (k : Known). k.nodes) empty) (texts c.declare_all-4.new.table.keys) (rw c.deref-4.ensures.value at c.in_ok-declare_all-4.ensures.kept) in
    λ i. record { variables = variables i; constants = constants i; constructors = constructors i; types = types i; nodes = nodes i }

pub returns-clause-distinct : goal.returns-clause-distinct
returns-clause-distinct c =
    let t = c.args.tree.now in
    let empty = c.new-names.ensures in
    record {
      types = each_distinct (λ (d : TypeDeclaration). d.name.text) type_seen t.types.items (texts c.new-names.result.types.keys) (ap (λ (k : Known). k.types) empty) (rw c.deref.ensures.value at c.in_ok-declare_all.ensures.new);
      values =
          values_distinct t (texts c.new-names.result.constants.keys) (ap (λ (k : Known). k.constants) empty) (texts c.declare_all-2.new.table.keys) (is_none c.doubled_value.result)
          (rw c.deref-2.ensures.value at c.in_ok-declare_all-2.ensures.kept) c.doubled_value.ensures (texts c.new-names.result.constructors.keys) (ap (λ (k : Known). k.constructors) empty)
          (rw c.deref-2.ensures.value at c.in_ok-declare_all-2.ensures.new) (rw c.deref-3.ensures.value at c.in_ok-declare_all-3.ensures.new) c.in_ok-refuse.ensures;
      nodes = each_distinct (λ (f : Node). f.name.text) node_seen t.nodes.items (texts c.new-names.result.nodes.keys) (ap (λ (k : Known). k.nodes) empty) (rw c.deref-4.ensures.value at c.in_ok-declare_all-4.ensures.new);
    }
