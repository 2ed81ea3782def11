-- Going on from what was found gives what reading gives.
use Rattle.std.proofs.Common.{◌≡◌, suc, ◌+◌, ◌-◌, length}
use Rattle.lus_syntax.specs.View.{tokens_seen}
use Rattle.lus_spelling.specs.ReadingDeclarations.{repeat_at}
use Rattle.lus_grammar.proofs.lists.in_turns.Given as goal

abbrev pub invariant-loop : goal.invariant-loop
invariant-loop g l = repeat_at g.T.Turns.begins g.T.Turns.turn (length l.tokens + 1 - l.counter) (g.T.Turns.seen l.found) (tokens_seen l.rest) ≡ repeat_at g.T.Turns.begins g.T.Turns.turn (suc (length (tokens_seen l.tokens))) (g.T.Turns.seen l.fn.found) (tokens_seen l.tokens)
