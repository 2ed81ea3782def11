-- What is said is a message.
use Rattle.lus_devices.proofs.Lines.{on_err}
use Rattle.lus_editing.proofs.ConversationLaws.{exchanged, exchanged_whole, frames_written, said_nothing}
use Rattle.lus_editing.proofs.conversation.exchange.Goals as goal

pub returns-in_err-answer-clause-beginning : goal.returns-in_err-answer-clause-beginning
returns-in_err-answer-clause-beginning g c =
    on_err c.from_residual.result _ (frames_written _ _ (said_nothing (g.O.Sink.written c.args.output.now)))

pub returns-in-Some-clause-whole : goal.returns-in-Some-clause-whole
returns-in-Some-clause-whole g c = exchanged_whole c.say.result _ _ _ c.say.ensures.whole

pub returns-in-Some-clause-beginning : goal.returns-in-Some-clause-beginning
returns-in-Some-clause-beginning g c = exchanged c.say.result _ _ _ c.say.ensures.beginning

pub returns-clause-whole : goal.returns-clause-whole
returns-clause-whole g c = said_nothing (g.O.Sink.written c.args.output.now)
