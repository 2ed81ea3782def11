-- An expression is as wide however its calls are numbered.
use Rattle.std.proofs.Common.{◌∙◌, sym, ap, take, drop}
use Rattle.lus_program.specs.View.{expression_of}
use Rattle.lus_reference.specs.Made.{stack_of}
use Rattle.lus_reference.proofs.Parts.{width_numbered}
use Rattle.lus_reference.proofs.values.make.Goals as goal

pub returns-clause-operands : goal.returns-clause-operands
returns-clause-operands c =
    let same = c.width.ensures ∙ sym (width_numbered (expression_of c.args.part.now.expr.now) c.args.part.now.number) in
    c.in_ok-operands.ensures.taken ∙ ap (λ n. take n (stack_of c.args.stack.now.items)) same

pub returns-clause-left : goal.returns-clause-left
returns-clause-left c =
    let same = c.width.ensures ∙ sym (width_numbered (expression_of c.args.part.now.expr.now) c.args.part.now.number) in
    c.in_ok-operands.ensures.left ∙ ap (λ n. drop n (stack_of c.args.stack.now.items)) same
