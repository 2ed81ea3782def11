use Rattle.std.proofs.Common.{◌≡◌, ◌∙◌, sym}
use Rattle.lus_values.proofs.Equalities.{same_all, same_all-lengths, same-structures, same-other, told_by_same}
use Rattle.lus_values.proofs.equality.+same.Goals as goal

pub same-returns-in-Struct-Struct-clause-value : goal.same-returns-in-Struct-Struct-clause-value
same-returns-in-Struct-Struct-clause-value t c =
    let fields : c.same_fields.result ≡ same_all c.in-Struct-Struct.a.items c.in-Struct-Struct.b.items = cc in
    fields ∙ same-structures c.in-Struct-Struct.a c.in-Struct-Struct.b _ _ c.in-Struct-Struct.is-0 c.in-Struct-Struct.is-1

pub same-returns-in-Struct-Struct-clause-equal : goal.same-returns-in-Struct-Struct-clause-equal
same-returns-in-Struct-Struct-clause-equal t c = told_by_same _ _ _ (same-returns-in-Struct-Struct-clause-value t c)

pub same-returns-in_default-4 : goal.same-returns-in_default-4
same-returns-in_default-4 t c =
    let differ = same-other c.in_default.field-0-0 _ _ c.in_default.is-0 c.in_default.not-Struct-1 in
    record { value = differ; equal = told_by_same _ _ _ differ }

pub same_fields-returns-then-left-right : goal.same_fields-returns-then-left-right
same_fields-returns-then-left-right t c = sym (same_all-lengths c.args.left.now c.args.right.now c.if-left-right.true)
