-- Calls of operands, one behind another, and a call behind those in its arguments.
use Rattle.std.proofs.Common.{◌≡◌, ◌∙◌, ℕ, suc, ◌+◌, ◌≤◌, Bool, true, false, List, [], ◌∷◌, ◌++◌, IfOk, OnOk, refl, sym, ap, subst, drop, drop-cons, drop_of_length-le, length, append_assoc, append-nil, true≢false, arith}
use Rattle.lus_program.specs.Programs.{all_calls, all_numbered, calls, more, numbered}
use Rattle.lus_program.specs.View.{expression_of, expression_in, operands_of}
use Rattle.lus_program.proofs.OperandViews.{seen_operate, seen_merge, seen_call}
use Rattle.lus_worlds.specs.Finding.{unless}
use Rattle.lus_worlds.specs.Turns.{all_calls_in_turn, calls_in_turn}
use Rattle.lus_worlds.proofs.finding.+calls.Goals as goal

unless_none : (held : Bool) → unless held [] ≡ []
unless_none true = refl
unless_none false = refl

unless_both : (held : Bool) (cs ds : List ℕ) → unless held (cs ++ ds) ≡ unless held cs ++ unless held ds
unless_both true cs ds = refl
unless_both false cs ds = refl

with_call : (held : Bool) (old found new turns : List ℕ) (c : ℕ) → held ≡ false → found ≡ old ++ unless held turns → new ≡ found ++ c ∷ [] → new ≡ old ++ unless held (turns ++ c ∷ [])
with_call true old found new turns c off f n = absurd (true≢false off)
with_call false old found new turns c off f n = n ∙ ap (λ l. l ++ c ∷ []) f ∙ append_assoc old turns (c ∷ [])

pub push_calls-returns-in-Operate-clause-next : goal.push_calls-returns-in-Operate-clause-next
push_calls-returns-in-Operate-clause-next t c =
    let n = c.args.number in
    let seen : expression_of c.args.expr.now ≡ _ = ap expression_in c.in-Operate.is ∙ seen_operate c.in-Operate.field-0 c.in-Operate.operands in
    let next : n + all_calls (operands_of c.deref.result.now) ≡ n + calls (expression_of c.args.expr.now) =
    ap (λ es. n + all_calls (operands_of es)) c.deref.ensures.value ∙ sym (ap (λ e. n + calls e) seen) in
    subst (λ (m : ℕ). IfOk c.push_all_calls.result (λ l. l ≡ m)) next c.push_all_calls.ensures.next

pub push_calls-returns-in-Operate-clause-found : goal.push_calls-returns-in-Operate-clause-found
push_calls-returns-in-Operate-clause-found t c =
    let n = c.args.number in
    let held = c.args.held in
    let old = c.args.found.now.items in
    let seen : expression_of c.args.expr.now ≡ _ = ap expression_in c.in-Operate.is ∙ seen_operate c.in-Operate.field-0 c.in-Operate.operands in
    let found : old ++ unless held (all_calls_in_turn (all_numbered n (operands_of c.deref.result.now))) ≡ old ++ unless held (calls_in_turn (numbered n (expression_of c.args.expr.now))) =
    ap (λ es. old ++ unless held (all_calls_in_turn (all_numbered n (operands_of es)))) c.deref.ensures.value ∙ sym (ap (λ e. old ++ unless held (calls_in_turn (numbered n e))) seen) in
    subst (λ (cs : List ℕ). OnOk c.push_all_calls.result (c.push_all_calls.new.found.items ≡ cs)) found c.push_all_calls.ensures.found

pub push_calls-returns-in-Merge-clause-next : goal.push_calls-returns-in-Merge-clause-next
push_calls-returns-in-Merge-clause-next t c =
    let n = c.args.number in
    let seen : expression_of c.args.expr.now ≡ _ = ap expression_in c.in-Merge.is ∙ seen_merge c.in-Merge.field-0 c.in-Merge.branches in
    let next : n + all_calls (operands_of c.deref-in-Merge.result.now) ≡ n + calls (expression_of c.args.expr.now) =
    ap (λ es. n + all_calls (operands_of es)) c.deref-in-Merge.ensures.value ∙ sym (ap (λ e. n + calls e) seen) in
    subst (λ (m : ℕ). IfOk c.push_all_calls-in-Merge.result (λ l. l ≡ m)) next c.push_all_calls-in-Merge.ensures.next

pub push_calls-returns-in-Merge-clause-found : goal.push_calls-returns-in-Merge-clause-found
push_calls-returns-in-Merge-clause-found t c =
    let n = c.args.number in
    let held = c.args.held in
    let old = c.args.found.now.items in
    let seen : expression_of c.args.expr.now ≡ _ = ap expression_in c.in-Merge.is ∙ seen_merge c.in-Merge.field-0 c.in-Merge.branches in
    let found : old ++ unless held (all_calls_in_turn (all_numbered n (operands_of c.deref-in-Merge.result.now))) ≡ old ++ unless held (calls_in_turn (numbered n (expression_of c.args.expr.now))) =
    ap (λ es. old ++ unless held (all_calls_in_turn (all_numbered n (operands_of es)))) c.deref-in-Merge.ensures.value ∙ sym (ap (λ e. old ++ unless held (calls_in_turn (numbered n e))) seen) in
    subst (λ (cs : List ℕ). OnOk c.push_all_calls-in-Merge.result (c.push_all_calls-in-Merge.new.found.items ≡ cs)) found c.push_all_calls-in-Merge.ensures.found

pub push_calls-returns-in_ok-push-in-Some-clause-next : goal.push_calls-returns-in_ok-push-in-Some-clause-next
push_calls-returns-in_ok-push-in-Some-clause-next t c =
    let seen : expression_of c.args.expr.now ≡ _ = ap expression_in c.in-Call.is ∙ seen_call c.in-Call.field-0 c.in-Call.arguments in
    let counted : calls (expression_of c.args.expr.now) ≡ suc (all_calls (operands_of c.in-Call.arguments.items)) = ap calls seen in
    let given : all_calls (operands_of c.deref-in-Some.result.now) ≡ all_calls (operands_of c.in-Call.arguments.items) = ap (λ es. all_calls (operands_of es)) c.deref-in-Some.ensures.value in
    let one : c.in-Some.next ≡ suc c.args.number = omega (arith, c.in-Some.ensures) in
    omega (arith, counted, given, one, c.in_ok-after-in-Some.ensures.next)

pub push_calls-returns-in_ok-push-in-Some-clause-found : goal.push_calls-returns-in_ok-push-in-Some-clause-found
push_calls-returns-in_ok-push-in-Some-clause-found t c =
    let n = c.args.number in
    let held = c.args.held in
    let old = c.args.found.now.items in
    let es = operands_of c.in-Call.arguments.items in
    let seen : expression_of c.args.expr.now ≡ _ = ap expression_in c.in-Call.is ∙ seen_call c.in-Call.field-0 c.in-Call.arguments in
    let one : c.in-Some.next ≡ suc n = omega (arith, c.in-Some.ensures) in
    let found : c.push_all_calls-in-Some.new.found.items ≡ old ++ unless held (all_calls_in_turn (all_numbered (suc n) es)) =
    c.in_ok-after-in-Some.ensures.found ∙ (λ j. old ++ unless held (all_calls_in_turn (all_numbered (one j) (operands_of (c.deref-in-Some.ensures.value j))))) in
    with_call held old c.push_all_calls-in-Some.new.found.items c.push.new.self.items (all_calls_in_turn (all_numbered (suc n) es)) n c.if-not-held.true found c.in_ok-push-in-Some.ensures.items
    ∙ sym (ap (λ e. old ++ unless held (calls_in_turn (numbered n e))) seen)

pub push_calls-returns-else-not-held-clause-next : goal.push_calls-returns-else-not-held-clause-next
push_calls-returns-else-not-held-clause-next t c =
    let seen : expression_of c.args.expr.now ≡ _ = ap expression_in c.in-Call.is ∙ seen_call c.in-Call.field-0 c.in-Call.arguments in
    let counted : calls (expression_of c.args.expr.now) ≡ suc (all_calls (operands_of c.in-Call.arguments.items)) = ap calls seen in
    let given : all_calls (operands_of c.deref-in-Some.result.now) ≡ all_calls (operands_of c.in-Call.arguments.items) = ap (λ es. all_calls (operands_of es)) c.deref-in-Some.ensures.value in
    let one : c.in-Some.next ≡ suc c.args.number = omega (arith, c.in-Some.ensures) in
    omega (arith, counted, given, one, c.in_ok-after-in-Some.ensures.next)

pub push_all_calls-loop-operand-preserved : goal.push_all_calls-loop-operand-preserved
push_all_calls-loop-operand-preserved t c =
    let xs = c.args.operands.now in
    let i = c.loop-operand.operand-index in
    let x = c.operand-item.result in
    let e = expression_of x in
    let n = c.loop-operand.next in
    let held = c.args.held in
    let old = c.loop-operand.found.items in
    let later = operands_of (drop (suc i) xs) in
    let next : i + 1 ≡ suc i = omega arith in
    let rest : drop i xs ≡ x ∷ drop (suc i) xs = drop-cons xs i x c.loop-operand-test.true ∙ (λ j. sym c.operand-item.is j ∷ drop (suc i) xs) in
    let opened : operands_of (drop i xs) ≡ more e later = ap operands_of rest in
    let counted : all_calls (operands_of (drop i xs)) ≡ calls e + all_calls later = ap all_calls opened in
    let moved : all_calls (operands_of (drop (i + 1) xs)) ≡ all_calls later = ap (λ m. all_calls (operands_of (drop m xs))) next in
    let before : n + all_calls (operands_of (drop i xs)) ≡ c.args.number + all_calls (operands_of xs) = c.loop-operand.invariant.next in
    let after : c.in_ok-after.after ≡ n + calls e = c.in_ok-after.ensures.next in
    let turns = calls_in_turn (numbered n e) in
    let more_found : c.push_calls.new.found.items ≡ old ++ unless held turns = c.in_ok-after.ensures.found in
    let all_later = all_calls_in_turn (all_numbered (n + calls e) later) in
    record {
      next = omega (arith, counted, moved, before, after);
      found =
          (λ j. more_found j ++ unless held (all_calls_in_turn (all_numbered (after j) (operands_of (drop (next j) xs)))))
          ∙ append_assoc old (unless held turns) (unless held all_later)
          ∙ ap (λ l. old ++ l) (sym (unless_both held turns all_later))
          ∙ ap (λ l. old ++ unless held (all_calls_in_turn (all_numbered n l))) (sym opened)
          ∙ c.loop-operand.invariant.found;
    }

pub push_all_calls-returns-clause-next : goal.push_all_calls-returns-clause-next
push_all_calls-returns-clause-next t c =
    let xs = c.args.operands.now in
    let i = c.loop-operand.operand-index in
    let done : drop i xs ≡ [] = drop_of_length-le xs (let le : length xs ≤ i = omega (arith, c.loop-operand-test.false) in le) in
    let none_left : all_calls (operands_of (drop i xs)) ≡ 0 = ap (λ l. all_calls (operands_of l)) done in
    let all : c.loop-operand.next + all_calls (operands_of (drop i xs)) ≡ c.args.number + all_calls (operands_of xs) = c.loop-operand.invariant.next in
    omega (arith, none_left, all)

pub push_all_calls-returns-clause-found : goal.push_all_calls-returns-clause-found
push_all_calls-returns-clause-found t c =
    let xs = c.args.operands.now in
    let i = c.loop-operand.operand-index in
    let held = c.args.held in
    let old = c.loop-operand.found.items in
    let done : drop i xs ≡ [] = drop_of_length-le xs (let le : length xs ≤ i = omega (arith, c.loop-operand-test.false) in le) in
    sym (append-nil old)
    ∙ ap (λ l. old ++ l) (sym (unless_none held))
    ∙ ap (λ l. old ++ unless held (all_calls_in_turn (all_numbered c.loop-operand.next (operands_of l)))) (sym done)
    ∙ c.loop-operand.invariant.found
