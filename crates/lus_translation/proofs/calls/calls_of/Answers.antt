use Rattle.std.proofs.Common.{◌≡◌, ◌∙◌, ◌+◌, ◌<◌, ◌≤◌, ◌++◌, ◌∷◌, [], suc, map, drop, length, sym, ap, arith, drop-cons, drop_of_length-le, append-nil}
use Rattle.lus_values.specs.Lists.{item}
use Rattle.lus_program.specs.View.{expression_of, node_of, program_seen}
use Rattle.lus_streams.specs.Clocks.{clock_of}
use Rattle.lus_translation.specs.Forms.{call_first}
use Rattle.lus_translation.specs.Newest.{call_seen, tested_call}
use Rattle.lus_translation.proofs.Giving.{first_before, kept_next}
use Rattle.lus_translation.proofs.Numbered.{stored_calls, calls_stored}
use Rattle.lus_translation.proofs.calls.calls_of.Goals as goal

pub loop-equation-preserved : goal.loop-equation-preserved
loop-equation-preserved c =
    let p = program_seen c.args.program.now in
    let f = node_of c.args.node.now in
    let qs = c.args.node.now.equations.items in
    let i = c.loop-equation.equation-index in
    let q = c.equation-item.result in
    let lt : i < length qs = rw c.deref-equation-items.ensures.value at c.loop-equation-test.true in
    let is : q ≡ _ = rw c.deref-equation-items.ensures.value at c.equation-item.is in
    let next : i + 1 ≡ suc i = omega arith in
    let rest : drop i qs ≡ q ∷ drop (i + 1) qs = drop-cons qs i q lt ∙ (λ j. sym is j ∷ drop (sym next j) qs) in
    let k = clock_of f (item 0 q.targets.items 0) in
    let old = map call_seen c.loop-equation.calls.items in
    let later = stored_calls p f (drop (i + 1) qs) in
    let first = call_first p (expression_of q.right) k in
    kept_next tested_call old _ _ (first []) later c.in_ok-add_call.ensures
    (ap (λ l. old ++ map tested_call l) (sym (first_before p (expression_of q.right) k later))
    ∙ ap (λ l. old ++ map tested_call (stored_calls p f l)) (sym rest)
    ∙ c.loop-equation.invariant)

pub returns : goal.returns
returns c =
    let p = program_seen c.args.program.now in
    let f = node_of c.args.node.now in
    let qs = c.args.node.now.equations.items in
    let old = map call_seen c.loop-equation.calls.items in
    let at : c.loop-equation.equation-index ≡ length qs = rw c.deref-equation-items.ensures.value at (let e : c.loop-equation.equation-index ≡ length c.deref-equation-items.result.now = omega arith in e) in
    let done : drop c.loop-equation.equation-index qs ≡ [] = drop_of_length-le qs (let le : length qs ≤ c.loop-equation.equation-index = omega (arith, at) in le) in
    sym (append-nil old) ∙ ap (λ l. old ++ map tested_call (stored_calls p f l)) (sym done) ∙ c.loop-equation.invariant ∙ ap (map tested_call) (sym (calls_stored p f 0 qs))
