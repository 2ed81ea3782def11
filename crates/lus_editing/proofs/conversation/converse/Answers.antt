-- Each message that is written goes behind the whole ones before it.
use Rattle.lus_editing.proofs.ConversationLaws.{frames_more, frames_written, said_both, said_nothing}
use Rattle.lus_editing.proofs.conversation.converse.Goals as goal

pub loop-turn-init : goal.loop-turn-init
loop-turn-init g c = said_nothing (g.O.Sink.written c.args.output.now)

pub loop-turn-preserved : goal.loop-turn-preserved
loop-turn-preserved g c = said_both _ _ _ c.loop-turn.invariant c.in_ok-exchange.ensures.whole

pub returns-in_err-read : goal.returns-in_err-read
returns-in_err-read g c = frames_written _ _ c.loop-turn.invariant

pub returns-in_default : goal.returns-in_default
returns-in_default g c = frames_written _ _ c.loop-turn.invariant

pub returns-in_err-exchange : goal.returns-in_err-exchange
returns-in_err-exchange g c = frames_more _ _ _ c.loop-turn.invariant c.in_err-exchange.ensures.beginning

pub returns-in-Some-status : goal.returns-in-Some-status
returns-in-Some-status g c = frames_written _ _ (said_both _ _ _ c.loop-turn.invariant c.in_ok-exchange.ensures.whole)

pub returns : goal.returns
returns g c = frames_written _ _ c.loop-turn.invariant
