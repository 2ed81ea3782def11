-- Levels grow fewer; the fields so far come before those that are left.
use Rattle.std.proofs.Common.{◌≡◌, ◌+◌, ◌*◌, ◌-◌, map, codes}
use Rattle.lus_values.specs.View.{value_of}
use Rattle.lus_asked.specs.Reading.{items_at, list_at, value_at}
use Rattle.lus_asked.proofs.Lists.{with_items}
use Rattle.lus_asked.proofs.value.+values.Given as goal

abbrev pub decreases-take_value : goal.decreases-take_value
decreases-take_value l = 2 * l.levels

abbrev pub decreases-take_fields : goal.decreases-take_fields
decreases-take_fields l = 2 * l.levels + 1

abbrev pub invariant-take_fields-loop : goal.invariant-take_fields-loop
invariant-take_fields-loop l =
    with_items (map value_of l.fields.items) (items_at (value_at l.levels l.names) (codes "}") (codes "; ") (l.most - l.counter) l.left)
    ≡ list_at (value_at l.levels l.names) (codes "}") (codes "; ") l.text
