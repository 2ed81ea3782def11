use Rattle.std.proofs.Common.{◌≡◌, ◌∙◌, sym, ap, map, subst, IfOk, arith}
use Rattle.std.proofs.lemmas.Grind.{common_steps}
use Rattle.lus_values.specs.Values.{Value, struct, fields_of}
use Rattle.lus_values.specs.View.{value_of}
use Rattle.lus_values.proofs.Views.{struct_fields}
use Rattle.lus_values.proofs.value.+copy.Goals as goal

pub copy-returns-in-Struct : goal.copy-returns-in-Struct
copy-returns-in-Struct t c =
    let whole : struct (fields_of (map value_of c.deref.result.now)) ≡ value_of c.args.value.now =
    ap (λ l. struct (fields_of (map value_of l))) c.deref.ensures.value ∙ sym (ap value_of c.in-Struct.is ∙ struct_fields c.in-Struct.fields) in
    subst (λ (v : Value). IfOk c.copy_structure.result (λ u. value_of u ≡ v)) whole c.copy_structure.ensures

pub copy_structure-returns : goal.copy_structure-returns
copy_structure-returns t c =
    let same : map value_of c.loop-field.copies.items ≡ map value_of c.args.fields.now = grind (arith, common_steps) in
    struct_fields c.loop-field.copies ∙ ap (λ l. struct (fields_of l)) same
