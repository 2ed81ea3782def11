use Rattle.std.proofs.Common.{◌≡◌, ◌++◌, map}
use Rattle.std.specs.Prelude.{replicate}
use Rattle.lus_instructions.specs.Words.{entry_in}
use Rattle.lus_running.proofs.filling.fill.Given as goal

abbrev pub invariant-loop-place : goal.invariant-loop-place
invariant-loop-place g l = map g.T.Held.entry l.row.items ≡ map g.T.Held.entry l.initial.row.items ++ replicate l._place (entry_in l.word)
