-- What the loop over fields after an expression keeps, and what falls at each turn.
use Rattle.std.proofs.Common.{suc, ◌+◌, ◌-◌, ◌≤◌}
use Rattle.lus_spelling.specs.Reading.{found, dots_at}
use Rattle.lus_syntax.specs.View.{tokens_seen, expression_seen}
use Rattle.lus_grammar.proofs.Depths.{Remains, dots}
use Rattle.lus_grammar.proofs.primaries.dots.Given as goal

abbrev pub invariant-loop-after : goal.invariant-loop-after
invariant-loop-after l = record {
  within : l.depth ≤ l.limit + 1;
  remains : Remains (dots l.limit) l.limit (found (expression_seen l.left.value) l.depth (tokens_seen l.rest)) (dots_at (suc l.limit) l.limit (found (expression_seen l.fn.left.value) l.fn.depth (tokens_seen l.tokens)));
}

abbrev pub decreases-loop-after : goal.decreases-loop-after
decreases-loop-after l = l.limit + 1 - l.depth
