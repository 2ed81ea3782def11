use Rattle.std.proofs.Common.{rules, ◌≡◌, ◌∙◌, ap}
use Rattle.lus_program.specs.View.{expression_of, expression_in}
use Rattle.lus_program.proofs.OperandViews.{seen_operate, seen_merge, seen_call}
use Rattle.lus_normal.proofs.parts.+parts.Goals as goal

pub parts-returns-in-Operate : goal.parts-returns-in-Operate
parts-returns-in-Operate t c =
    let e : expression_of c.args.expr.now ≡ _ = ap expression_in c.in-Operate.is ∙ seen_operate c.in-Operate.field-0 c.in-Operate.operands in
    rw e (search rules)

pub parts-returns-in-Merge : goal.parts-returns-in-Merge
parts-returns-in-Merge t c =
    let e : expression_of c.args.expr.now ≡ _ = ap expression_in c.in-Merge.is ∙ seen_merge c.in-Merge.field-0 c.in-Merge.branches in
    rw e (search rules)

pub parts-returns-in-Call : goal.parts-returns-in-Call
parts-returns-in-Call t c =
    let e : expression_of c.args.expr.now ≡ _ = ap expression_in c.in-Call.is ∙ seen_call c.in-Call.field-0 c.in-Call.arguments in
    rw e (search rules)
