-- The items so far come before those that are left.
use Rattle.std.proofs.Common.{◌≡◌, ◌-◌, map, codes}
use Rattle.lus_values.specs.View.{entry_of}
use Rattle.lus_asked.specs.Reading.{inner_row_at, item_at, items_at}
use Rattle.lus_asked.proofs.Lists.{with_items}
use Rattle.lus_asked.proofs.request.take_items.Given as goal

abbrev pub invariant-loop : goal.invariant-loop
invariant-loop l = with_items (map entry_of l.items.items) (items_at (item_at l.names) (codes ")") (codes ", ") (l.most - l.counter) l.left) ≡ inner_row_at l.names l.text
