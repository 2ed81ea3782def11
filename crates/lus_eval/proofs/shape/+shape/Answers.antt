use Rattle.std.proofs.Common.{◌≡◌, ◌∙◌, sym, ap}
use Rattle.lus_program.specs.View.{program_seen}
use Rattle.lus_eval.specs.TypedRows.{values_fit}
use Rattle.lus_eval.proofs.TypedRows.{values_fit-lengths, structure_fits}
use Rattle.lus_eval.proofs.shape.+shape.Goals as goal

pub are_of-returns-then-values-fields : goal.are_of-returns-then-values-fields
are_of-returns-then-values-fields t c = sym (values_fit-lengths (program_seen c.args.program.now) c.args.fields.now c.args.values.now c.if-values-fields.true)

pub is_of-returns-in-Struct-kind : goal.is_of-returns-in-Struct-kind
is_of-returns-in-Struct-kind t c =
    let p = program_seen c.args.program.now in
    let fields : c.are_of.result ≡ values_fit p c.fields_at.result.now c.in-Struct.fields.items = c.are_of.ensures ∙ ap (values_fit p c.fields_at.result.now) c.deref.ensures.value in
    fields ∙ structure_fits p c.args.value.now c.in-Struct.fields c.args.kind c.in-Struct-kind.number c.fields_at.result.now c.in-Struct.is c.in-Struct-kind.is c.fields_at.ensures
