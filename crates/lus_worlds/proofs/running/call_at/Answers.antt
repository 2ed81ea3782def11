-- A part is this call, or it isn't.
use Rattle.std.proofs.Common.{◌∙◌, sym, ap}
use Rattle.lus_program.specs.Programs.{call}
use Rattle.lus_program.specs.View.{expression_in, expression_of, operands_of}
use Rattle.lus_program.proofs.OperandViews.{seen_call}
use Rattle.lus_worlds.proofs.InOrder.{other_number}
use Rattle.lus_worlds.proofs.running.call_at.Goals as goal

pub returns-then-part-call : goal.returns-then-part-call
returns-then-part-call c =
    let q = c.args.part.now in
    other_number c.args.call q.clock.items q.number (expression_of q.expr.now) c.if-part-call.true

pub returns-in-Call : goal.returns-in-Call
returns-in-Call c =
    let g = c.in-Call.called in
    (c.if-part-call.false, ap expression_in c.in-Call.is ∙ seen_call g c.in-Call.arguments ∙ ap (λ l. call g 0 (operands_of l)) (sym c.deref-given.ensures.value))
