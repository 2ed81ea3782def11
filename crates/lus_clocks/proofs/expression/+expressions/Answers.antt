-- Operations, merges and calls, as contracts see their operands.
use Rattle.std.proofs.Common.{rules, ◌≡◌, ◌∙◌, ap, arith}
use Rattle.std.proofs.lemmas.Grind.{common_steps}
use Rattle.lus_program.specs.View.{expression_of, expression_in}
use Rattle.lus_program.proofs.OperandViews.{seen_operate, seen_merge, seen_call}
use Rattle.lus_clocks.proofs.expression.+expressions.Goals as goal

pub check_expression-returns-in-Operate : goal.check_expression-returns-in-Operate
check_expression-returns-in-Operate t c =
    let e : expression_of c.args.expr.now ≡ _ = ap expression_in c.in-Operate.is ∙ seen_operate c.in-Operate.field-0 c.in-Operate.operands in
    rw e (search rules)

pub check_expression-returns-in_ok-require_same-in-Merge :
    goal.check_expression-returns-in_ok-require_same-in-Merge
check_expression-returns-in_ok-require_same-in-Merge t c =
    let e : expression_of c.args.expr.now ≡ _ = ap expression_in c.in-Merge.is ∙ seen_merge c.in-Merge.variable c.in-Merge.branches in
    rw e (grind (arith, common_steps))

pub check_expression-returns-in_err-require-in-Call :
    goal.check_expression-returns-in_err-require-in-Call
check_expression-returns-in_err-require-in-Call t c =
    let e : expression_of c.args.expr.now ≡ _ = ap expression_in c.in-Call.is ∙ seen_call c.in-Call.called c.in-Call.arguments in
    rw e (grind (arith, common_steps))

pub check_expression-returns-in_ok-require-in-Call :
    goal.check_expression-returns-in_ok-require-in-Call
check_expression-returns-in_ok-require-in-Call t c =
    let e : expression_of c.args.expr.now ≡ _ = ap expression_in c.in-Call.is ∙ seen_call c.in-Call.called c.in-Call.arguments in
    rw e (grind (arith, common_steps))
