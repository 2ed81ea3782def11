-- A structure, as contracts see its fields.
use Rattle.std.proofs.Common.{rules, ◌≡◌, ◌∙◌, ap}
use Rattle.lus_values.specs.View.{value_of}
use Rattle.lus_values.proofs.Views.{struct_fields}
use Rattle.lus_clocks.proofs.values.+values.Goals as goal

pub is_nil_free-returns-in-Struct : goal.is_nil_free-returns-in-Struct
is_nil_free-returns-in-Struct t c =
    let e : value_of c.args.value.now ≡ _ = ap value_of c.in-Struct.is ∙ struct_fields c.in-Struct.fields in
    rw e (search rules)
