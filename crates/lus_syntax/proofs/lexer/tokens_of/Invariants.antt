use Rattle.std.proofs.Common.{length}
use Rattle.lus_syntax.specs.Reading.{HasRoom}
use Rattle.lus_syntax.specs.Places.{start}
use Rattle.lus_syntax.specs.Tokens.{Run}
use Rattle.lus_syntax.specs.View.{tokens_seen}
use Rattle.lus_syntax.proofs.lexer.tokens_of.Given as goal

abbrev pub invariant-loop-tokens : goal.invariant-loop-tokens
invariant-loop-tokens l = record { so_far : Run (tokens_seen l.tokens.items) start l.text l.at l.rest; room : HasRoom l.at l.rest }

abbrev pub decreases-loop-tokens : goal.decreases-loop-tokens
decreases-loop-tokens l = length l.rest
