use Rattle.std.proofs.Common.{◌≡◌, ◌++◌, length, reverse, map}
use Rattle.std.specs.List.{All}
use Rattle.lus_values.specs.Values.{Row}
use Rattle.lus_values.specs.View.{entry_of}
use Rattle.lus_leaves.specs.Leaves.{row_leaves, rows_leaves}
use Rattle.lus_leaves.specs.Fits.{RowFits, RowsFit}
use Rattle.lus_leaves.proofs.OnlyRows.{RowsGoOn}
use Rattle.lus_leaves.proofs.reading.rows_of.Given as goal

abbrev pub invariant-loop-row : goal.invariant-loop-row
invariant-loop-row l = record {
  count_is : length l.rows.items ≡ l._row;
  even : All (λ (r : Row). length r ≡ l.width) l.rows.items;
  fits : RowsFit l.rows.items;
  left_fits : RowFits (map entry_of (reverse l.entries.items));
  only : RowsGoOn l.leaves l.count l.width l.rows.items (map entry_of (reverse l.entries.items));
  leaves : rows_leaves l.rows.items ++ row_leaves (map entry_of (reverse l.entries.items)) ≡ l.leaves;
}
