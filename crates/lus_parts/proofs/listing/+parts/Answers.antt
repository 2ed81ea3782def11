-- Operands, one behind another; operations, merges and calls, as contracts see their operands.
use Rattle.std.proofs.Common.{◌≡◌, ◌∙◌, ℕ, suc, ◌+◌, List, ◌∷◌, ◌++◌, IfOk, OnOk, sym, ap, subst, drop, drop-cons, map, append_assoc, arith}
use Rattle.lus_program.specs.Programs.{all_calls, all_numbered, calls, more, node_at, numbered}
use Rattle.lus_program.specs.View.{expression_of, expression_in, operands_of, program_seen}
use Rattle.lus_program.proofs.OperandViews.{seen_operate, seen_merge, seen_call}
use Rattle.lus_streams.specs.Clocks.{Part, all_parts, base_of, branch_clock, formal_clock, parts}
use Rattle.lus_parts.specs.Parts.{operand_clock, part_of}
use Rattle.lus_parts.proofs.Operands.{formal_numbered}
use Rattle.lus_parts.proofs.Steps.{with_first}
use Rattle.lus_parts.proofs.listing.+parts.Goals as goal

pub push_parts-returns-clause-found : goal.push_parts-returns-clause-found
push_parts-returns-clause-found t c =
    let p = program_seen c.args.program.now in
    let k = c.args.clock.now in
    let e = numbered c.args.number (expression_of c.args.expr.now) in
    let old = map part_of c.args.found.now.items in
    let found : map part_of c.push_part.new.found.items ++ drop 1 (parts p e k) ≡ old ++ parts p e k =
    ap (λ m. m ++ drop 1 (parts p e k)) c.in_ok-push_part.ensures.found ∙ with_first p old e k in
    subst (λ (ps : List Part). OnOk c.push_below.result (map part_of c.push_below.new.found.items ≡ ps)) found c.push_below.ensures.found

pub push_below-returns-in-Operate-clause-next : goal.push_below-returns-in-Operate-clause-next
push_below-returns-in-Operate-clause-next t c =
    let n = c.args.number in
    let seen : expression_of c.args.expr.now ≡ _ = ap expression_in c.in-Operate.is ∙ seen_operate c.in-Operate.field-0 c.in-Operate.operands in
    let next : n + all_calls (operands_of c.deref.result.now) ≡ n + calls (expression_of c.args.expr.now) =
    ap (λ es. n + all_calls (operands_of es)) c.deref.ensures.value ∙ sym (ap (λ e. n + calls e) seen) in
    subst (λ (m : ℕ). IfOk c.push_operands.result (λ l. l ≡ m)) next c.push_operands.ensures.next

pub push_below-returns-in-Operate-clause-found : goal.push_below-returns-in-Operate-clause-found
push_below-returns-in-Operate-clause-found t c =
    let p = program_seen c.args.program.now in
    let n = c.args.number in
    let k = c.args.clock.now in
    let old = map part_of c.args.found.now.items in
    let seen : expression_of c.args.expr.now ≡ _ = ap expression_in c.in-Operate.is ∙ seen_operate c.in-Operate.field-0 c.in-Operate.operands in
    let found : old ++ all_parts p (all_numbered n (operands_of c.deref.result.now)) (λ m. k) 0 ≡ old ++ drop 1 (parts p (numbered n (expression_of c.args.expr.now)) k) =
    ap (λ es. old ++ all_parts p (all_numbered n (operands_of es)) (λ m. k) 0) c.deref.ensures.value ∙ sym (ap (λ e. old ++ drop 1 (parts p (numbered n e) k)) seen) in
    subst (λ (ps : List Part). OnOk c.push_operands.result (map part_of c.push_operands.new.found.items ≡ ps)) found c.push_operands.ensures.found

pub push_below-returns-in-Merge-clause-next : goal.push_below-returns-in-Merge-clause-next
push_below-returns-in-Merge-clause-next t c =
    let n = c.args.number in
    let seen : expression_of c.args.expr.now ≡ _ = ap expression_in c.in-Merge.is ∙ seen_merge c.in-Merge.variable c.in-Merge.branches in
    let next : n + all_calls (operands_of c.deref-in-Merge.result.now) ≡ n + calls (expression_of c.args.expr.now) =
    ap (λ es. n + all_calls (operands_of es)) c.deref-in-Merge.ensures.value ∙ sym (ap (λ e. n + calls e) seen) in
    subst (λ (m : ℕ). IfOk c.push_operands-in-Merge.result (λ l. l ≡ m)) next c.push_operands-in-Merge.ensures.next

pub push_below-returns-in-Merge-clause-found : goal.push_below-returns-in-Merge-clause-found
push_below-returns-in-Merge-clause-found t c =
    let p = program_seen c.args.program.now in
    let n = c.args.number in
    let k = c.args.clock.now in
    let x = c.in-Merge.variable in
    let old = map part_of c.args.found.now.items in
    let seen : expression_of c.args.expr.now ≡ _ = ap expression_in c.in-Merge.is ∙ seen_merge x c.in-Merge.branches in
    let found : old ++ all_parts p (all_numbered n (operands_of c.deref-in-Merge.result.now)) (branch_clock x k) 0 ≡ old ++ drop 1 (parts p (numbered n (expression_of c.args.expr.now)) k) =
    ap (λ es. old ++ all_parts p (all_numbered n (operands_of es)) (branch_clock x k) 0) c.deref-in-Merge.ensures.value ∙ sym (ap (λ e. old ++ drop 1 (parts p (numbered n e) k)) seen) in
    subst (λ (ps : List Part). OnOk c.push_operands-in-Merge.result (map part_of c.push_operands-in-Merge.new.found.items ≡ ps)) found c.push_operands-in-Merge.ensures.found

pub push_below-returns-in-Call-clause-next : goal.push_below-returns-in-Call-clause-next
push_below-returns-in-Call-clause-next t c =
    let n = c.args.number in
    let seen : expression_of c.args.expr.now ≡ _ = ap expression_in c.in-Call.is ∙ seen_call c.in-Call.called c.in-Call.arguments in
    let one : (n + 1) + all_calls (operands_of c.in-Call.arguments.items) ≡ n + suc (all_calls (operands_of c.in-Call.arguments.items)) = omega arith in
    let next : (n + 1) + all_calls (operands_of c.deref-in-Call.result.now) ≡ n + calls (expression_of c.args.expr.now) =
    ap (λ es. (n + 1) + all_calls (operands_of es)) c.deref-in-Call.ensures.value ∙ one ∙ sym (ap (λ e. n + calls e) seen) in
    subst (λ (m : ℕ). IfOk c.push_operands-in-Call.result (λ l. l ≡ m)) next c.push_operands-in-Call.ensures.next

pub push_below-returns-in-Call-clause-found : goal.push_below-returns-in-Call-clause-found
push_below-returns-in-Call-clause-found t c =
    let p = program_seen c.args.program.now in
    let n = c.args.number in
    let k = c.args.clock.now in
    let g = node_at p c.in-Call.called in
    let base = base_of g k in
    let es = operands_of c.in-Call.arguments.items in
    let old = map part_of c.args.found.now.items in
    let one : n + 1 ≡ suc n = omega arith in
    let seen : expression_of c.args.expr.now ≡ _ = ap expression_in c.in-Call.is ∙ seen_call c.in-Call.called c.in-Call.arguments in
    let found : old ++ all_parts p (all_numbered (n + 1) (operands_of c.deref-in-Call.result.now)) (formal_clock g (operands_of c.deref-in-Call.result.now) base) 0 ≡ old ++ drop 1 (parts p (numbered n (expression_of c.args.expr.now)) k) =
    ap (λ xs. old ++ all_parts p (all_numbered (n + 1) (operands_of xs)) (formal_clock g (operands_of xs) base) 0) c.deref-in-Call.ensures.value
    ∙ ap (λ m. old ++ all_parts p (all_numbered m es) (formal_clock g es base) 0) one
    ∙ ap (λ ks. old ++ all_parts p (all_numbered (suc n) es) ks 0) (formal_numbered g es (suc n) base)
    ∙ sym (ap (λ e. old ++ drop 1 (parts p (numbered n e) k)) seen) in
    subst (λ (ps : List Part). OnOk c.push_operands-in-Call.result (map part_of c.push_operands-in-Call.new.found.items ≡ ps)) found c.push_operands-in-Call.ensures.found

pub push_operands-loop-index-preserved : goal.push_operands-loop-index-preserved
push_operands-loop-index-preserved t c =
    let p = program_seen c.args.program.now in
    let xs = c.args.operands.now in
    let es = operands_of xs in
    let i = c.loop-index.index in
    let x = c.index-operands-index.result in
    let e = expression_of x in
    let n = c.loop-index.next in
    let ks = operand_clock p c.args.under es c.args.clock.now in
    let old = map part_of c.loop-index.found.items in
    let later = operands_of (drop (suc i) xs) in
    let next : i + 1 ≡ suc i = omega arith in
    let rest : drop i xs ≡ x ∷ drop (suc i) xs = drop-cons xs i x c.loop-index-test.true ∙ (λ j. sym c.index-operands-index.is j ∷ drop (suc i) xs) in
    let opened : operands_of (drop i xs) ≡ more e later = ap operands_of rest in
    let own : c.deref.result.now ≡ ks i = c.deref.ensures.value ∙ c.in_ok-own.ensures ∙ ap ks c.in_ok-place.ensures in
    let counted : all_calls (operands_of (drop i xs)) ≡ calls e + all_calls later = ap all_calls opened in
    let moved : all_calls (operands_of (drop (i + 1) xs)) ≡ all_calls later = ap (λ m. all_calls (operands_of (drop m xs))) next in
    let before : n + all_calls (operands_of (drop i xs)) ≡ c.args.number + all_calls es = c.loop-index.invariant.next in
    let after : c.in_ok-after.after ≡ n + calls e = c.in_ok-after.ensures.next in
    let more_found : map part_of c.push_parts.new.found.items ≡ old ++ parts p (numbered n e) c.deref.result.now = c.in_ok-after.ensures.found in
    let all_later = all_parts p (all_numbered (n + calls e) later) ks (suc i) in
    record {
      next = omega (arith, counted, moved, before, after);
      room = c.in_ok-after.ensures.room;
      found =
          (λ j. more_found j ++ all_parts p (all_numbered (after j) (operands_of (drop (next j) xs))) ks (next j))
          ∙ append_assoc old (parts p (numbered n e) c.deref.result.now) all_later
          ∙ ap (λ k. old ++ (parts p (numbered n e) k ++ all_later)) own
          ∙ ap (λ l. old ++ all_parts p (all_numbered n l) ks i) (sym opened)
          ∙ c.loop-index.invariant.found;
    }
