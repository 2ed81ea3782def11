-- Nothing is written of words that the command doesn't take.
use Rattle.lus_editing.proofs.ConversationLaws.{frames_written, said_nothing}
use Rattle.lus_lsp.proofs.shell.command.Goals as goal

pub returns-then-not-are_taken : goal.returns-then-not-are_taken
returns-then-not-are_taken g c = frames_written _ _ (said_nothing (g.O.Sink.written c.args.output.now))
