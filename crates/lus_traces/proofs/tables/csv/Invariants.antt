-- The text so far comes before those of the tables that are left.
use Rattle.std.proofs.Common.{◌≡◌, ◌++◌, flat_map, map, string_bytes}
use Rattle.std.specs.Vec.Iter.{into_iter_items}
use Rattle.lus_traces.specs.Tables.{joined, next_table}
use Rattle.lus_traces.proofs.tables.csv.Given as goal

abbrev pub invariant-loop-table : goal.invariant-loop-table
invariant-loop-table l =
    string_bytes l.out ++ flat_map next_table (map string_bytes (into_iter_items l.table-iterator)) ≡ joined (map string_bytes l.fn.tables.items)
