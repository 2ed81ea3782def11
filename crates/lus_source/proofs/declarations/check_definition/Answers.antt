-- A field of an unknown type, or one that is doubled, breaks the rule of its structure.
use Rattle.std.proofs.Common.{◌≡◌, ◌∙◌, true, List, [], flat_map, map, ap, sym}
use Rattle.std.specs.Prelude.{is_none}
use Rattle.std.proofs.lemmas.List.Folds.{flat_map-map, list_all-map}
use Rattle.lus_syntax.specs.declared.tree.Fields.{Fields as StoredFields}
use Rattle.lus_syntax.specs.Trees.{Fields}
use Rattle.lus_syntax.specs.View.{fields_seen}
use Rattle.lus_source.specs.Named.{all_new, field_names, type_known}
use Rattle.lus_source.specs.Tables.{text_of}
use Rattle.lus_source.specs.NameView.{texts}
use Rattle.lus_source.proofs.Faults.{judged_by, passed_on}
use Rattle.lus_source.proofs.declarations.check_definition.Goals as goal

names_are : (gs : List StoredFields) → flat_map (λ g. map text_of (fields_seen g).names) gs ≡ field_names (map fields_seen gs)
names_are gs = sym (flat_map-map (λ (g : Fields). map text_of g.names) fields_seen gs)

pub returns-in_err-refuse-in-Structure : goal.returns-in_err-refuse-in-Structure
returns-in_err-refuse-in-Structure c =
    let is = rw c.deref.ensures.value at c.first_unknown.ensures in
    rw c.in-Structure.is (passed_on _ (λ some named.
    let none : is_none c.first_unknown.result ≡ true = is ∙ sym (list_all-map (λ (g : Fields). type_known (texts c.args.names.now.types.keys) g.type_name) fields_seen c.in-Structure.fields.items) ∙ named.0 in
    cc) c.from_residual.result c.in_err-refuse-in-Structure.field-0.0 c.from_residual.ensures.1 c.in_err-refuse-in-Structure.ensures)

pub returns-in_ok-refuse-in-Structure : goal.returns-in_ok-refuse-in-Structure
returns-in_ok-refuse-in-Structure c =
    let fields = c.in-Structure.fields.items in
    let is = rw c.deref.ensures.value at c.first_unknown.ensures in
    let known = list_all-map (λ (g : Fields). type_known (texts c.args.names.now.types.keys) g.type_name) fields_seen fields ∙ sym is ∙ c.in_ok-refuse-in-Structure.ensures in
    let same : all_new [] (flat_map (λ g. map text_of (fields_seen g).names) fields) ≡ all_new [] (field_names (map fields_seen fields)) = ap (all_new []) (names_are fields) in
    rw c.in-Structure.is (judged_by (λ new. (known, sym same ∙ new)) (λ doubled named. let new : all_new [] (flat_map (λ g. map text_of (fields_seen g).names) fields) ≡ true = same ∙ named.1 in cc) c.check_distinct.result (rw c.deref-in-Structure.ensures.value at c.check_distinct.ensures))
