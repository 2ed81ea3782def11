use Rattle.std.proofs.Common.{◌≡◌, ◌∙◌, ap}
use Rattle.lus_program.specs.View.{expression_of, expression_in}
use Rattle.lus_program.proofs.OperandViews.{seen_operate, seen_merge}
use Rattle.lus_streams.specs.Clocks.{branch_clock}
use Rattle.lus_classes.specs.Classes.{compute, select}
use Rattle.lus_classes.proofs.FormulaViews.{seen_compute, seen_select}
use Rattle.lus_translation.specs.Forms.{code_list, one_clock}
use Rattle.lus_translation.proofs.CodeList.{codes_listed, one_more_made}
use Rattle.lus_translation.proofs.code.+codes.Goals as goal

pub code_of-returns-in_ok-codes-in-Operate-clause-code : goal.code_of-returns-in_ok-codes-in-Operate-clause-code
code_of-returns-in_ok-codes-in-Operate-clause-code t c =
    let e : expression_of c.args.expr.now ≡ _ = ap expression_in c.in-Operate.is ∙ seen_operate c.in-Operate.operator c.in-Operate.operands in
    let given = rw c.deref.ensures.value at c.in_ok-codes-in-Operate.ensures.code in
    rw e (seen_compute c.in-Operate.operator c.in_ok-codes-in-Operate.codes ∙ ap (compute c.in-Operate.operator) (codes_listed c.in_ok-codes-in-Operate.codes.items ∙ ap code_list given))

pub code_of-returns-in_ok-codes-in-Operate-clause-cells : goal.code_of-returns-in_ok-codes-in-Operate-clause-cells
code_of-returns-in_ok-codes-in-Operate-clause-cells t c =
    let e : expression_of c.args.expr.now ≡ _ = ap expression_in c.in-Operate.is ∙ seen_operate c.in-Operate.operator c.in-Operate.operands in
    let given = rw c.deref.ensures.value at c.in_ok-codes-in-Operate.ensures.cells in
    rw e given

pub code_of-returns-in_ok-codes-in-Merge-clause-code : goal.code_of-returns-in_ok-codes-in-Merge-clause-code
code_of-returns-in_ok-codes-in-Merge-clause-code t c =
    let e : expression_of c.args.expr.now ≡ _ = ap expression_in c.in-Merge.is ∙ seen_merge c.in-Merge.variable c.in-Merge.branches in
    let given = rw c.deref-in-Merge.ensures.value at c.in_ok-codes-in-Merge.ensures.code in
    rw e (seen_select c.in-Merge.variable c.in_ok-codes-in-Merge.codes ∙ ap (select c.in-Merge.variable) (codes_listed c.in_ok-codes-in-Merge.codes.items ∙ ap code_list given))

pub code_of-returns-in_ok-codes-in-Merge-clause-cells : goal.code_of-returns-in_ok-codes-in-Merge-clause-cells
code_of-returns-in_ok-codes-in-Merge-clause-cells t c =
    let e : expression_of c.args.expr.now ≡ _ = ap expression_in c.in-Merge.is ∙ seen_merge c.in-Merge.variable c.in-Merge.branches in
    let given = rw c.deref-in-Merge.ensures.value at c.in_ok-codes-in-Merge.ensures.cells in
    rw e given

pub codes_of-loop-operand-preserved : goal.codes_of-loop-operand-preserved
codes_of-loop-operand-preserved t c =
    let l = c.loop-operand in
    let made = c.in_ok-code.ensures in
    one_more_made c.args.cells.now.items l.cells.items c.code_of.new.cells.items c.args.firsts.now c.args.operands.now (one_clock c.args.clock.now) l.codes.items _ l.operand-index c.operand-item.result c.in_ok-code.code c.loop-operand-test.true
    c.operand-item.is made.code made.cells c.in_ok-push.ensures.items l.invariant

pub branch_codes_of-loop-constructor-preserved : goal.branch_codes_of-loop-constructor-preserved
branch_codes_of-loop-constructor-preserved t c =
    let l = c.loop-constructor in
    let x = c.args.variable in
    let k = c.args.clock.now in
    let on : c.deref.result.now ≡ branch_clock x k l.constructor = c.deref.ensures.value ∙ c.in_ok-clock.ensures ∙ ap (branch_clock x k) c.in_ok-constructor.ensures in
    let made = c.in_ok-code.ensures in
    one_more_made c.args.cells.now.items l.cells.items c.code_of.new.cells.items c.args.firsts.now c.args.branches.now (branch_clock x k) l.codes.items _ l.constructor c.index-branches-constructor.result c.in_ok-code.code c.loop-constructor-test.true
    c.index-branches-constructor.is (rw on at made.code) (rw on at made.cells) c.in_ok-push.ensures.items l.invariant
