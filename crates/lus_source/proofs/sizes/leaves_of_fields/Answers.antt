use Rattle.std.proofs.Common.{rules, arith, ◌<◌, sym}
use Rattle.std.proofs.lemmas.Grind.{common_steps}
use Rattle.lus_values.specs.Lists.{item}
use Rattle.lus_program.specs.View.{field_of}
use Rattle.lus_program.specs.Leaves.{kind_leaves}
use Rattle.lus_source.proofs.Counting.{past_most}
use Rattle.lus_source.proofs.sizes.leaves_of_fields.Goals as goal

pub returns-in_err-left : goal.returns-in_err-left
returns-in_err-left c =
    let field = c.field-item.result in
    let less : c.loop-field.left < c.leaves_of_kind.result = grind (arith, common_steps) in
    let past = past_most field_of (λ g. kind_leaves (item 1 c.args.leaves.now) g.kind) c.args.fields.now c.loop-field.field-index c.loop-field.left 1024 c.leaves_of_kind.result field c.loop-field-test.true c.field-item.is (sym c.leaves_of_kind.ensures) c.loop-field.invariant less in
    search rules
