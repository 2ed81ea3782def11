-- Operations, merges and calls, as contracts see their operands.
use Rattle.std.proofs.Common.{rules, ◌≡◌, ◌∙◌, ap, arith}
use Rattle.std.proofs.lemmas.Grind.{common_steps}
use Rattle.lus_program.specs.View.{expression_of, expression_in}
use Rattle.lus_program.proofs.OperandViews.{seen_operate, seen_merge, seen_call}
use Rattle.lus_clocks.proofs.required.+requirements.Goals as goal

pub check_meets-returns-in-Operate : goal.check_meets-returns-in-Operate
check_meets-returns-in-Operate t c =
    let e : expression_of c.args.expr.now ≡ _ = ap expression_in c.in-Operate.is ∙ seen_operate c.in-Operate.field-0 c.in-Operate.operands in
    rw e (search rules)

pub check_meets-returns-in_err-check_flagless-in-Merge :
    goal.check_meets-returns-in_err-check_flagless-in-Merge
check_meets-returns-in_err-check_flagless-in-Merge t c =
    let e : expression_of c.args.expr.now ≡ _ = ap expression_in c.in-Merge.is ∙ seen_merge c.in-Merge.variable c.in-Merge.branches in
    rw e (grind (arith, common_steps))

pub check_meets-returns-in_ok-check_flagless-in-Merge :
    goal.check_meets-returns-in_ok-check_flagless-in-Merge
check_meets-returns-in_ok-check_flagless-in-Merge t c =
    let e : expression_of c.args.expr.now ≡ _ = ap expression_in c.in-Merge.is ∙ seen_merge c.in-Merge.variable c.in-Merge.branches in
    rw e (grind (arith, common_steps))

pub check_meets-returns-in_err-check_flagless-in-Call :
    goal.check_meets-returns-in_err-check_flagless-in-Call
check_meets-returns-in_err-check_flagless-in-Call t c =
    let e : expression_of c.args.expr.now ≡ _ = ap expression_in c.in-Call.is ∙ seen_call c.in-Call.called c.in-Call.arguments in
    rw e (grind (arith, common_steps))

pub check_meets-returns-in_ok-check_flagless-in-Call :
    goal.check_meets-returns-in_ok-check_flagless-in-Call
check_meets-returns-in_ok-check_flagless-in-Call t c =
    let e : expression_of c.args.expr.now ≡ _ = ap expression_in c.in-Call.is ∙ seen_call c.in-Call.called c.in-Call.arguments in
    rw e (grind (arith, common_steps))
