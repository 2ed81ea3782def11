-- The right side, where it is a call, as contracts see it.
use Rattle.std.proofs.Common.{◌≡◌, ◌∙◌, ap, arith}
use Rattle.std.proofs.lemmas.Grind.{common_steps}
use Rattle.lus_program.specs.View.{expression_of, expression_in}
use Rattle.lus_program.proofs.OperandViews.{seen_call}
use Rattle.lus_clocks.proofs.equation.check_equation.Goals as goal

pub returns-in_err-require-in-Call : goal.returns-in_err-require-in-Call
returns-in_err-require-in-Call c =
    let e : expression_of c.args.equation.now.right ≡ _ = ap expression_in c.in-Call.is ∙ seen_call c.in-Call.called c.in-Call.arguments in
    rw e (grind (arith, common_steps))

pub returns-in_ok-require-in-Call : goal.returns-in_ok-require-in-Call
returns-in_ok-require-in-Call c =
    let e : expression_of c.args.equation.now.right ≡ _ = ap expression_in c.in-Call.is ∙ seen_call c.in-Call.called c.in-Call.arguments in
    rw e (grind (arith, common_steps))
