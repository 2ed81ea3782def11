use Rattle.std.proofs.Common.{◌≡◌, map, take}
use Rattle.lus_values.specs.View.{entry_of}
use Rattle.lus_values.proofs.row.copy_entries.Given as goal

abbrev pub invariant-loop-entry : goal.invariant-loop-entry
invariant-loop-entry l = map entry_of l.copies.items ≡ map entry_of (take l.entry-index l.fn.entries)
