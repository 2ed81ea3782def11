use Rattle.std.proofs.Common.{◌≡◌, ◌∙◌, sym}
use Rattle.lus_values.proofs.Alike.{alike_all, alike_all-lengths, alike-structures, alike-other}
use Rattle.lus_values.proofs.fitting.+alike.Goals as goal

pub alike-returns-in-Struct-Struct : goal.alike-returns-in-Struct-Struct
alike-returns-in-Struct-Struct t c =
    let fields : c.alike_fields.result ≡ alike_all c.in-Struct-Struct.a.items c.in-Struct-Struct.b.items = cc in
    fields ∙ alike-structures c.in-Struct-Struct.a c.in-Struct-Struct.b _ _ c.in-Struct-Struct.is-0 c.in-Struct-Struct.is-1

pub alike-returns-in_default-4 : goal.alike-returns-in_default-4
alike-returns-in_default-4 t c = alike-other c.in_default.field-0-0 _ _ c.in_default.is-0 c.in_default.not-Struct-1

pub alike_fields-returns-then-left-right : goal.alike_fields-returns-then-left-right
alike_fields-returns-then-left-right t c = sym (alike_all-lengths c.args.left.now c.args.right.now c.if-left-right.true)
