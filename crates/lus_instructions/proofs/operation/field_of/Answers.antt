use Rattle.std.proofs.Common.{◌≡◌, ◌∙◌, sym, ap, map, ◌∷◌, [], slice_get}
use Rattle.lus_values.specs.Operators.{project}
use Rattle.lus_values.specs.View.{value_of}
use Rattle.lus_values.proofs.Views.{struct_fields}
use Rattle.lus_instructions.proofs.Fields.{field_in}
use Rattle.lus_instructions.proofs.operation.field_of.Goals as goal

pub returns-in-Struct : goal.returns-in-Struct
returns-in-Struct c =
    let n = c.args.field in
    let fields = c.in-Struct.fields in
    let seen : value_of c.args.value.now ≡ _ = ap value_of c.in-Struct.is ∙ struct_fields fields in
    c.value_at.ensures
    ∙ ap (λ l. slice_get (map value_of l) n) c.deref.ensures.value
    ∙ sym (ap (λ v. project n (v ∷ [])) seen ∙ field_in (map value_of fields.items) n)
