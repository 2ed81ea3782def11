use Rattle.std.proofs.Common.{rules, ◌≡◌, ◌∙◌, ap}
use Rattle.lus_program.specs.View.{expression_of, expression_in}
use Rattle.lus_program.proofs.OperandViews.{seen_operate, seen_merge, seen_call}
use Rattle.lus_cells.proofs.weights.+weighing.Goals as goal

pub weigh-returns-in-Operate : goal.weigh-returns-in-Operate
weigh-returns-in-Operate t c =
    let e : expression_of c.args.expr.now ≡ _ = ap expression_in c.in-Operate.is ∙ seen_operate c.in-Operate.operator c.in-Operate.operands in
    rw e (search rules)

pub weigh-returns-in-Merge : goal.weigh-returns-in-Merge
weigh-returns-in-Merge t c =
    let e : expression_of c.args.expr.now ≡ _ = ap expression_in c.in-Merge.is ∙ seen_merge c.in-Merge.field-0 c.in-Merge.branches in
    rw e (search rules)

pub weigh-returns-in-Call : goal.weigh-returns-in-Call
weigh-returns-in-Call t c =
    let e : expression_of c.args.expr.now ≡ _ = ap expression_in c.in-Call.is ∙ seen_call c.in-Call.called c.in-Call.arguments in
    rw e (search rules)
