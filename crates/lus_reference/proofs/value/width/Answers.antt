-- Operands, as contracts see them.
use Rattle.std.proofs.Common.{◌≡◌, ◌∙◌, sym, ap, length, arith, rules}
use Rattle.std.proofs.lemmas.Grind.{common_steps}
use Rattle.lus_program.specs.View.{expression_of, expression_in}
use Rattle.lus_program.proofs.OperandViews.{seen_operate, seen_merge, seen_call}
use Rattle.lus_reference.specs.Made.{width}
use Rattle.lus_reference.proofs.Parts.{many_length}
use Rattle.lus_reference.proofs.value.width.Goals as goal

pub returns-in-Operate : goal.returns-in-Operate
returns-in-Operate c =
    let seen : expression_of c.args.expr.now ≡ _ = ap expression_in c.in-Operate.is ∙ seen_operate c.in-Operate.field-0 c.in-Operate.operands in
    let long : c.len.result ≡ length c.in-Operate.operands.items = first_of (search rules, grind (arith, common_steps)) in
    long ∙ sym (many_length c.in-Operate.operands.items) ∙ sym (ap width seen)

pub returns-in-Merge : goal.returns-in-Merge
returns-in-Merge c =
    let seen : expression_of c.args.expr.now ≡ _ = ap expression_in c.in-Merge.is ∙ seen_merge c.in-Merge.field-0 c.in-Merge.branches in
    let long : c.len-in-Merge.result ≡ length c.in-Merge.branches.items = first_of (search rules, grind (arith, common_steps)) in
    long ∙ sym (many_length c.in-Merge.branches.items) ∙ sym (ap width seen)

pub returns-in-Call : goal.returns-in-Call
returns-in-Call c =
    let seen : expression_of c.args.expr.now ≡ _ = ap expression_in c.in-Call.is ∙ seen_call c.in-Call.field-0 c.in-Call.arguments in
    let long : c.len-in-Call.result ≡ length c.in-Call.arguments.items = first_of (search rules, grind (arith, common_steps)) in
    long ∙ sym (many_length c.in-Call.arguments.items) ∙ sym (ap width seen)
