-- The entries so far are copied.
use Rattle.std.proofs.Common.{◌≡◌, map, take}
use Rattle.lus_values.specs.View.{entry_of}
use Rattle.lus_eval.proofs.copying.row_again.Given as goal

abbrev pub invariant-loop-entry : goal.invariant-loop-entry
invariant-loop-entry l = map entry_of l.again.items ≡ map entry_of (take l.entry-index l.entries)
