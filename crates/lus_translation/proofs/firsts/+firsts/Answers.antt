use Rattle.std.proofs.Common.{◌≡◌, ◌∙◌, ◌++◌, ap, map, refl}
use Rattle.lus_program.specs.Programs.{arrow}
use Rattle.lus_program.specs.View.{expression_in, expression_of}
use Rattle.lus_program.proofs.OperandViews.{seen_merge, seen_operate}
use Rattle.lus_streams.specs.Clocks.{branch_clock}
use Rattle.lus_translation.specs.Firsts.{with_all, with_one}
use Rattle.lus_translation.specs.Forms.{kept_firsts, one_clock}
use Rattle.lus_translation.specs.Newest.{newest}
use Rattle.lus_translation.proofs.Flags.{flags_next, one_more_flagged}
use Rattle.lus_translation.proofs.firsts.+firsts.Goals as goal

pub add_firsts-returns-in-Operate : goal.add_firsts-returns-in-Operate
add_firsts-returns-in-Operate t c =
    let e : expression_of c.args.expr.now ≡ _ = ap expression_in c.in-Operate.is ∙ seen_operate c.in-Operate.field-0 c.in-Operate.operands in
    rw e (rw c.deref.ensures.value at c.add_of_operands.ensures)

pub add_firsts-returns-in_ok-add_firsts-in-Arrow-2 : goal.add_firsts-returns-in_ok-add_firsts-in-Arrow-2
add_firsts-returns-in_ok-add_firsts-in-Arrow-2 t c =
    let old = c.args.firsts.now in
    let k = c.args.clock.now in
    let x = expression_of c.in-Arrow.first.value in
    let y = expression_of c.in-Arrow.later.value in
    let e : expression_of c.args.expr.now ≡ arrow x y = ap expression_in c.in-Arrow.is in
    let one : c.add.new.self ≡ with_one old (newest k) = c.in_ok-add-in-Arrow.ensures ∙ ap (with_one old) c.newest.ensures in
    let first = rw c.deref-in-Arrow.ensures at c.in_ok-add_firsts-in-Arrow.ensures in
    let later = rw c.deref-in-Arrow-2.ensures at c.in_ok-add_firsts-in-Arrow-2.ensures in
    rw e
    (later
    ∙ flags_next c.add.new.self c.add_firsts.new.firsts _ (kept_firsts x k) (kept_firsts y k) first refl
    ∙ ap (λ l. with_all l (map newest (kept_firsts x k ++ kept_firsts y k))) one)

pub add_firsts-returns-in-Merge : goal.add_firsts-returns-in-Merge
add_firsts-returns-in-Merge t c =
    let e : expression_of c.args.expr.now ≡ _ = ap expression_in c.in-Merge.is ∙ seen_merge c.in-Merge.variable c.in-Merge.branches in
    rw e (rw c.deref-in-Merge.ensures.value at c.add_of_branches.ensures)

pub add_of_operands-loop-operand-preserved : goal.add_of_operands-loop-operand-preserved
add_of_operands-loop-operand-preserved t c =
    let l = c.loop-operand in
    one_more_flagged l.firsts c.add_firsts.new.firsts _ c.args.operands.now (one_clock c.args.clock.now) l.operand-index c.operand-item.result c.loop-operand-test.true
    c.operand-item.is c.in_ok-add_firsts.ensures l.invariant

pub add_of_branches-loop-constructor-preserved : goal.add_of_branches-loop-constructor-preserved
add_of_branches-loop-constructor-preserved t c =
    let l = c.loop-constructor in
    let x = c.args.variable in
    let k = c.args.clock.now in
    let on : c.deref.result.now ≡ branch_clock x k l.constructor = c.deref.ensures.value ∙ c.in_ok-clock.ensures ∙ ap (branch_clock x k) c.in_ok-constructor.ensures in
    one_more_flagged l.firsts c.add_firsts.new.firsts _ c.args.branches.now (branch_clock x k) l.constructor c.index-branches-constructor.result c.loop-constructor-test.true
    c.index-branches-constructor.is (rw on at c.in_ok-add_firsts.ensures) l.invariant
