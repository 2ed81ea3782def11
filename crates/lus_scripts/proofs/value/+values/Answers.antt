-- A value is read as that of its type, an object field by field.
use Rattle.std.proofs.Common.{rules, ◌≡◌, ◌∙◌, ap, sym, map, length, Some, None}
use Rattle.serde_json.specs.Find.{as_object}
use Rattle.serde_json.specs.View.{view, members_view}
use Rattle.lus_values.proofs.Views.{struct_fields}
use Rattle.lus_values.specs.View.{value_of}
use Rattle.lus_program.specs.View.{field_of, program_seen}
use Rattle.lus_scripts.specs.Forms.{members_count}
use Rattle.lus_scripts.specs.Scripts.{fields_at}
use Rattle.std.proofs.lemmas.List.{length-map}
use Rattle.lus_scripts.specs.declared.refusal.ScriptRefusal.TheVariants.{Form}
use Rattle.lus_scripts.proofs.Values.{ok_part, value_at-scalar, value_at-struct}
use Rattle.lus_scripts.proofs.value.+values.Goals as goal

pub read_value-returns-in_default-clause-ok : goal.read_value-returns-in_default-clause-ok
read_value-returns-in_default-clause-ok n c =
    let d = view c.args.json.now in
    let scalar : as_object d ≡ None = search rules in
    ok_part value_of Form c.read_scalar.result c.ok_or.result _ c.ok_or.ensures.value
    (value_at-scalar c.args.levels (program_seen c.args.program.now) c.args.names.now c.args.kind d scalar ∙ sym c.read_scalar.ensures)

pub read_value-returns-clause-ok : goal.read_value-returns-clause-ok
read_value-returns-clause-ok n c =
    let d = view c.args.json.now in
    let p = program_seen c.args.program.now in
    let fields = map field_of c.in_ok-fields.fields.now in
    let is : Some (members_view c.in-Some.field-0.now.entries) ≡ as_object d = search rules in
    let typed : Some fields ≡ fields_at p c.args.kind = search rules in
    let count : members_count d ≡ length fields = simp length-map (search rules) in
    value_at-struct c.args.levels p c.args.names.now c.args.kind d (members_view c.in-Some.field-0.now.entries) fields (map value_of c.in_ok-values.values.items)
    (search rules) is typed count c.in_ok-values.ensures.ok
    ∙ ap Some (sym (struct_fields c.in_ok-values.values))
