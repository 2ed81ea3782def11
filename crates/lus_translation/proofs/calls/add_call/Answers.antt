use Rattle.std.proofs.Common.{◌≡◌, ◌∙◌, ◌++◌, ◌∷◌, [], map, ap}
use Rattle.std.proofs.lemmas.List.{map-append}
use Rattle.lus_program.specs.View.{expression_of, expression_in, operands_of, node_of, program_seen}
use Rattle.lus_program.proofs.OperandViews.{seen_call}
use Rattle.lus_translation.specs.Forms.{call_form}
use Rattle.lus_translation.specs.Newest.{call_seen, tested_call}
use Rattle.lus_translation.proofs.calls.add_call.Goals as goal

pub returns-in_ok-push-in-Call : goal.returns-in_ok-push-in-Call
returns-in_ok-push-in-Call c =
    let e : expression_of c.args.equation.now.right ≡ _ = ap expression_in c.in-Call.is ∙ seen_call c.in-Call.called c.in-Call.arguments in
    let p = program_seen c.args.program.now in
    let f = node_of c.args.node.now in
    let args = operands_of c.in-Call.arguments.items in
    let given = rw (c.deref.ensures.value, c.deref-in-Call.ensures.value) at c.in_ok-call-in-Call.ensures in
    let made = given ∙ ap (λ k. tested_call (call_form p c.in-Call.called args k)) c.in_ok-clock-in-Call.ensures in
    let pushed = ap (map call_seen) c.in_ok-push-in-Call.ensures.items ∙ map-append call_seen c.args.calls.now.items (c.in_ok-call-in-Call.call ∷ []) in
    rw e (pushed ∙ ap (λ q. map call_seen c.args.calls.now.items ++ q ∷ []) made)
