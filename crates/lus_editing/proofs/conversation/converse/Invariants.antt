-- What was written so far is whole messages.
use Rattle.lus_editing.specs.Conversations.{HasSaid}
use Rattle.lus_editing.proofs.conversation.converse.Given as goal

abbrev pub invariant-loop-turn : goal.invariant-loop-turn
invariant-loop-turn g l = HasSaid (g.O.Sink.written l.initial.output) (g.O.Sink.written l.output)
