use Rattle.std.proofs.Common.{◌≡◌, ◌++◌, ◌-◌, drop, length, map}
use Rattle.lus_values.specs.View.{entry_of}
use Rattle.lus_leaves.specs.Leaves.{row_leaves}
use Rattle.lus_leaves.specs.Fits.{RowFits}
use Rattle.lus_leaves.proofs.OnlyRows.{RowGoesOn}
use Rattle.lus_leaves.proofs.reading.entries_of.Given as goal

abbrev pub invariant-loop-at : goal.invariant-loop-at
invariant-loop-at l = record {
  read : l.leaves ≡ row_leaves (map entry_of l.entries.items) ++ drop l.at l.leaves;
  fits : RowFits (map entry_of l.entries.items);
  only : RowGoesOn l.leaves (map entry_of l.entries.items) l.at;
}

abbrev pub decreases-loop-at : goal.decreases-loop-at
decreases-loop-at l = length l.leaves - l.at
