-- The rows so far come before those that are left.
use Rattle.std.proofs.Common.{◌≡◌, ◌-◌, codes}
use Rattle.lus_asked.specs.Reading.{items_at, row_at, rows_at}
use Rattle.lus_asked.proofs.Lists.{with_items}
use Rattle.lus_asked.proofs.request.take_rows.Given as goal

abbrev pub invariant-loop : goal.invariant-loop
invariant-loop l = with_items l.rows.items (items_at (row_at l.names) (codes ")") (codes ", ") (l.most - l.counter) l.left) ≡ rows_at l.names l.text
