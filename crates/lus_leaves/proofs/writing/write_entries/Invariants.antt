use Rattle.std.proofs.Common.{map, take}
use Rattle.lus_values.specs.View.{entry_of}
use Rattle.lus_leaves.specs.Leaves.{row_leaves}
use Rattle.lus_leaves.specs.Writing.{IsWritten}
use Rattle.lus_leaves.proofs.writing.write_entries.Given as goal

abbrev pub invariant-loop-entry : goal.invariant-loop-entry
invariant-loop-entry l = IsWritten l.initial.leaves l.start (row_leaves (map entry_of (take l.entry-index l.entries))) l.leaves l.at
