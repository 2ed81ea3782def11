-- Operands, one behind another, and what holds them.
use Rattle.std.proofs.Common.{◌≡◌, ◌∙◌, ℕ, suc, ◌+◌, IfOk, sym, ap, subst, arith}
use Rattle.lus_program.specs.Parts.{parts, parts_all}
use Rattle.lus_program.specs.Programs.{all_calls, calls}
use Rattle.lus_program.specs.View.{expression_of, expression_in, operands_of}
use Rattle.lus_program.proofs.OperandViews.{seen_operate, seen_merge, seen_call}
use Rattle.lus_reference.proofs.counting.+counts.Goals as goal

pub count-returns-in-Operate-clause-parts : goal.count-returns-in-Operate-clause-parts
count-returns-in-Operate-clause-parts t c =
    let seen : expression_of c.args.expr.now ≡ _ = ap expression_in c.in-Operate.is ∙ seen_operate c.in-Operate.field-0 c.in-Operate.operands in
    let counted : parts (expression_of c.args.expr.now) ≡ suc (parts_all (operands_of c.in-Operate.operands.items)) = ap parts seen in
    let given : parts_all (operands_of c.deref.result.now) ≡ parts_all (operands_of c.in-Operate.operands.items) = ap (λ es. parts_all (operands_of es)) c.deref.ensures.value in
    let one : c.in_ok-parts.parts ≡ c.args.before.parts + 1 = c.in_ok-parts.ensures in
    let whole : c.in_ok-parts.parts + parts_all (operands_of c.deref.result.now) ≡ c.args.before.parts + parts (expression_of c.args.expr.now) = omega (arith, counted, given, one) in
    subst (λ (m : ℕ). IfOk c.count_all.result (λ n. n.parts ≡ m)) whole c.count_all.ensures.parts

pub count-returns-in-Operate-clause-calls : goal.count-returns-in-Operate-clause-calls
count-returns-in-Operate-clause-calls t c =
    let n = c.args.before.calls in
    let seen : expression_of c.args.expr.now ≡ _ = ap expression_in c.in-Operate.is ∙ seen_operate c.in-Operate.field-0 c.in-Operate.operands in
    let whole : n + all_calls (operands_of c.deref.result.now) ≡ n + calls (expression_of c.args.expr.now) = ap (λ es. n + all_calls (operands_of es)) c.deref.ensures.value ∙ sym (ap (λ e. n + calls e) seen) in
    subst (λ (m : ℕ). IfOk c.count_all.result (λ l. l.calls ≡ m)) whole c.count_all.ensures.calls

pub count-returns-in-Merge-clause-parts : goal.count-returns-in-Merge-clause-parts
count-returns-in-Merge-clause-parts t c =
    let seen : expression_of c.args.expr.now ≡ _ = ap expression_in c.in-Merge.is ∙ seen_merge c.in-Merge.field-0 c.in-Merge.branches in
    let counted : parts (expression_of c.args.expr.now) ≡ suc (parts_all (operands_of c.in-Merge.branches.items)) = ap parts seen in
    let given : parts_all (operands_of c.deref-in-Merge.result.now) ≡ parts_all (operands_of c.in-Merge.branches.items) = ap (λ es. parts_all (operands_of es)) c.deref-in-Merge.ensures.value in
    let one : c.in_ok-parts.parts ≡ c.args.before.parts + 1 = c.in_ok-parts.ensures in
    let whole : c.in_ok-parts.parts + parts_all (operands_of c.deref-in-Merge.result.now) ≡ c.args.before.parts + parts (expression_of c.args.expr.now) = omega (arith, counted, given, one) in
    subst (λ (m : ℕ). IfOk c.count_all-in-Merge.result (λ n. n.parts ≡ m)) whole c.count_all-in-Merge.ensures.parts

pub count-returns-in-Merge-clause-calls : goal.count-returns-in-Merge-clause-calls
count-returns-in-Merge-clause-calls t c =
    let n = c.args.before.calls in
    let seen : expression_of c.args.expr.now ≡ _ = ap expression_in c.in-Merge.is ∙ seen_merge c.in-Merge.field-0 c.in-Merge.branches in
    let whole : n + all_calls (operands_of c.deref-in-Merge.result.now) ≡ n + calls (expression_of c.args.expr.now) =
    ap (λ es. n + all_calls (operands_of es)) c.deref-in-Merge.ensures.value ∙ sym (ap (λ e. n + calls e) seen) in
    subst (λ (m : ℕ). IfOk c.count_all-in-Merge.result (λ l. l.calls ≡ m)) whole c.count_all-in-Merge.ensures.calls

pub count-returns-in_ok-calls-in-Call-clause-parts : goal.count-returns-in_ok-calls-in-Call-clause-parts
count-returns-in_ok-calls-in-Call-clause-parts t c =
    let seen : expression_of c.args.expr.now ≡ _ = ap expression_in c.in-Call.is ∙ seen_call c.in-Call.field-0 c.in-Call.arguments in
    let counted : parts (expression_of c.args.expr.now) ≡ suc (parts_all (operands_of c.in-Call.arguments.items)) = ap parts seen in
    let given : parts_all (operands_of c.deref-in-Call.result.now) ≡ parts_all (operands_of c.in-Call.arguments.items) = ap (λ es. parts_all (operands_of es)) c.deref-in-Call.ensures.value in
    let one : c.in_ok-parts.parts ≡ c.args.before.parts + 1 = c.in_ok-parts.ensures in
    let whole : c.in_ok-parts.parts + parts_all (operands_of c.deref-in-Call.result.now) ≡ c.args.before.parts + parts (expression_of c.args.expr.now) = omega (arith, counted, given, one) in
    subst (λ (m : ℕ). IfOk c.count_all-in-Call.result (λ n. n.parts ≡ m)) whole c.count_all-in-Call.ensures.parts

pub count-returns-in_ok-calls-in-Call-clause-calls : goal.count-returns-in_ok-calls-in-Call-clause-calls
count-returns-in_ok-calls-in-Call-clause-calls t c =
    let seen : expression_of c.args.expr.now ≡ _ = ap expression_in c.in-Call.is ∙ seen_call c.in-Call.field-0 c.in-Call.arguments in
    let counted : calls (expression_of c.args.expr.now) ≡ suc (all_calls (operands_of c.in-Call.arguments.items)) = ap calls seen in
    let given : all_calls (operands_of c.deref-in-Call.result.now) ≡ all_calls (operands_of c.in-Call.arguments.items) = ap (λ es. all_calls (operands_of es)) c.deref-in-Call.ensures.value in
    let one : c.in_ok-calls-in-Call.calls ≡ c.args.before.calls + 1 = c.in_ok-calls-in-Call.ensures in
    let whole : c.in_ok-calls-in-Call.calls + all_calls (operands_of c.deref-in-Call.result.now) ≡ c.args.before.calls + calls (expression_of c.args.expr.now) = omega (arith, counted, given, one) in
    subst (λ (m : ℕ). IfOk c.count_all-in-Call.result (λ n. n.calls ≡ m)) whole c.count_all-in-Call.ensures.calls
