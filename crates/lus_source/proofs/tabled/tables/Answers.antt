-- Each table is the names of its space with what was found for each.
use Rattle.std.proofs.Common.{◌≡◌, ◌∙◌, List, [], IsTrue, ap, map, refl, subst, sym, length, zero-add}
use Rattle.std.specs.List.{list_all, zip}
use Rattle.lus_syntax.specs.View.{tree_seen}
use Rattle.lus_values.specs.Lists.{item}
use Rattle.lus_values.specs.View.{value_of}
use Rattle.lus_values.proofs.Lists.{below_at}
use Rattle.lus_program.specs.declared.types.Kind.TheVariants as kinds
use Rattle.lus_program.specs.Programs.{Declared}
use Rattle.lus_program.specs.View.{declared_of}
use Rattle.lus_source.specs.Named.{Known, known}
use Rattle.lus_source.specs.ScopeView.{signature_of}
use Rattle.lus_source.specs.Sized.{Counted}
use Rattle.lus_source.specs.Tables.{all_constructors, all_declared_by, constants_by, kind_at, signature_by, signatures_by, types_by, value_in}
use Rattle.lus_source.specs.Labels.{has_few_fields}
use Rattle.lus_source.specs.ByTable.{kind_told}
use Rattle.lus_source.specs.NameView.{spaces_seen}
use Rattle.lus_source.proofs.OfSource.{all_have_few, made_tables}
use Rattle.lus_source.proofs.Placing.{kinds_listed, names-all_constructors, names-numbered, names-rows, whole}
use Rattle.lus_source.proofs.tabled.tables.Goals as goal

pub invariant_of-tables : goal.invariant_of-tables
invariant_of-tables c =
    let p = tree_seen c.args.loopless.now in
    let kind = kind_told c.names-names.result.now.types c.in_ok-types.types.items in
    let counted : Counted p = rw (c.tree.ensures.same, c.named-named.ensures.same) at c.tree.ensures.counted in
    let declared : map declared_of c.in_ok-declared.declared.items ≡ all_declared_by kind p.types =
    rw (c.deref.ensures.value, c.deref-2.ensures.value, c.tree.ensures.same, c.named-named.ensures.same) at c.in_ok-declared.ensures in
    record { few_fields = subst (λ (l : List Declared). IsTrue (list_all has_few_fields l)) (sym declared) (all_have_few kind p.types counted.definitions) }

pub invariant_of-result : goal.invariant_of-result
invariant_of-result c =
    let p = tree_seen c.args.loopless.now in
    let ns = c.names-names.result.now in
    let ks = c.in_ok-types.types.items in
    let cs = c.in_ok-constructors.constructors.items in
    let kind = kind_told ns.types ks in
    let known_constructors = zip ns.constructors cs in
    let named : spaces_seen ns ≡ known p [] = rw c.named-named.ensures.same at c.names-names.ensures in
    made_tables p _ (record {
      variables = refl;
      types =
          whole (types_by (kind_at p) p.types) ns.types ks (ap (λ (k : Known). k.types) named ∙ sym (names-numbered (λ d. d.name.text) (λ d. kind_at p) 0 p.types))
          (kinds_listed (kind_at p) p.types ks 0 c.in_ok-types.ensures.size (λ t lt. below_at (λ u. item kinds.Bool ks u ≡ kind_at p u) (length p.types) c.in_ok-types.ensures.each t lt ∙ ap (kind_at p) (sym (zero-add t))));
      declared = rw (c.deref.ensures.value, c.deref-2.ensures.value, c.tree.ensures.same, c.named-named.ensures.same) at c.in_ok-declared.ensures;
      constructors = whole (all_constructors p) ns.constructors cs (ap (λ (k : Known). k.constructors) named ∙ sym (names-all_constructors p.types 0)) (rw c.named-named.ensures.same at c.in_ok-constructors.ensures);
      constants =
          whole (constants_by known_constructors p.constants) ns.constants (map value_of c.in_ok-constants.constants.items)
          (ap (λ (k : Known). k.constants) named ∙ sym (names-rows (λ k. k.name.text) (λ k. value_in known_constructors k.value) p.constants))
          (rw (c.deref-6.ensures.value, c.deref-7.ensures.value, c.tree-3.ensures.same, c.named-named.ensures.same) at c.in_ok-constants.ensures);
      nodes =
          whole (signatures_by kind p.nodes) ns.nodes (map signature_of c.in_ok-nodes.nodes.items) (ap (λ (k : Known). k.nodes) named ∙ sym (names-numbered (λ f. f.name.text) (signature_by kind) 0 p.nodes))
          (rw (c.deref-3.ensures.value, c.named-named.ensures.same) at c.in_ok-nodes.ensures);
    }) (rw (c.deref-5.ensures.value, c.deref-4.ensures.value, c.tree-2.ensures.same, c.named-named.ensures.same) at c.in_ok-variables.ensures)
