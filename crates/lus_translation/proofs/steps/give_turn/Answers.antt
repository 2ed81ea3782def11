use Rattle.std.proofs.Common.{◌≡◌, ◌∙◌, ◌<◌, ◌++◌, ap, length, rules, sym}
use Rattle.lus_program.specs.View.{expression_of, expression_in}
use Rattle.lus_program.proofs.OperandViews.{seen_call}
use Rattle.lus_classes.specs.View.{steps_of}
use Rattle.lus_instructions.specs.declared.class.Step.TheVariants as variants
use Rattle.lus_translation.specs.Forms.{answers_form, calls_with}
use Rattle.lus_translation.specs.Making.{calls_made}
use Rattle.lus_translation.proofs.Giving.{call_with, made_pushed, steps_pushed}
use Rattle.lus_translation.proofs.steps.give_turn.Goals as goal

pub returns-in_ok-push-in-Call-clause-steps : goal.returns-in_ok-push-in-Call-clause-steps
returns-in_ok-push-in-Call-clause-steps c =
    let e : expression_of c.args.equation.now.right ≡ _ = ap expression_in c.in-Call.is ∙ seen_call c.in-Call.called c.in-Call.field-1 in
    let ss = c.args.built.now.steps.items in
    let given = rw c.deref.ensures.value at (c.in_ok-targets-in-Call.ensures c.args.number) in
    let pushed = ap steps_of c.in_ok-push-in-Call.ensures.items ∙ steps_pushed ss (variants.Call c.args.number c.in_ok-targets-in-Call.targets) in
    rw e (pushed ∙ ap (λ l. steps_of ss ++ l) (given ∙ ap (λ n. answers_form c.args.number n c.args.equation.now.targets.items c.args.variables.now) c.inputs_at-inputs.ensures))

pub returns-in_ok-push-in-Call-clause-made : goal.returns-in_ok-push-in-Call-clause-made
returns-in_ok-push-in-Call-clause-made c =
    let e : expression_of c.args.equation.now.right ≡ _ = ap expression_in c.in-Call.is ∙ seen_call c.in-Call.called c.in-Call.field-1 in
    let ss = c.args.built.now.steps.items in
    let n = c.args.number in
    let ts = c.in_ok-targets-in-Call.targets.items in
    let given = rw c.deref.ensures.value at (c.in_ok-targets-in-Call.ensures n) in
    let some : 0 < length ts = search rules in
    let pushed = ap calls_made c.in_ok-push-in-Call.ensures.items ∙ made_pushed ss (variants.Call n c.in_ok-targets-in-Call.targets) in
    rw e (pushed ∙ sym (call_with (calls_made ss) n ts some) ∙ ap (calls_with (calls_made ss) n) (given ∙ ap (λ m. answers_form n m c.args.equation.now.targets.items c.args.variables.now) c.inputs_at-inputs.ensures))
