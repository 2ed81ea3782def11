use Rattle.std.proofs.Common.{◌≡◌, ◌+◌, ◌++◌, length, reverse, map}
use Rattle.lus_values.specs.View.{entry_of}
use Rattle.lus_leaves.proofs.reading.next_row.Given as goal

abbrev pub invariant-loop-entry : goal.invariant-loop-entry
invariant-loop-entry l = record {
  count_is : length l.items.items ≡ l._entry;
  left : length l.entries.items + l._entry ≡ length l.initial.entries.items;
  rest : map entry_of (reverse l.initial.entries.items) ≡ map entry_of l.items.items ++ map entry_of (reverse l.entries.items);
}
