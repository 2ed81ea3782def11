-- The frame is written, or a beginning of it.
use Rattle.std.proofs.Common.{ap, subst, ◌∙◌}
use Rattle.lus_devices.specs.Devices.{WritesBeginning, with_text}
use Rattle.lus_devices.proofs.Lines.{on_err}
use Rattle.lus_editing.proofs.ConversationLaws.{nothing_begun}
use Rattle.lus_editing.proofs.conversation.say.Goals as goal

pub returns-in_err-frame-clause-beginning : goal.returns-in_err-frame-clause-beginning
returns-in_err-frame-clause-beginning g c =
    on_err c.from_residual.result _ (nothing_begun (g.O.Sink.written c.args.output.now) c.args.said.now)

pub returns-in_err-write_frame-clause-beginning : goal.returns-in_err-write_frame-clause-beginning
returns-in_err-write_frame-clause-beginning g c =
    on_err c.from_residual-in_err-write_frame.result _
    (subst (WritesBeginning (g.O.Sink.written c.args.output.now) (g.O.Sink.written c.write_frame.new.sink))
    (c.as_str.ensures.value ∙ c.in_ok-frame.ensures) c.in_err-write_frame.ensures.beginning)

pub returns-clause-whole : goal.returns-clause-whole
returns-clause-whole g c =
    c.in_ok-write_frame.ensures.whole ∙ ap (with_text (g.O.Sink.written c.args.output.now)) (c.as_str.ensures.value ∙ c.in_ok-frame.ensures)
