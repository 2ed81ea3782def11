-- The columns so far stand in the head.
use Rattle.std.proofs.Common.{◌≡◌, drop, map, string_bytes}
use Rattle.lus_test.specs.Tables.{has_all}
use Rattle.lus_test.proofs.table.has_all.Given as goal

abbrev pub invariant-loop-column : goal.invariant-loop-column
invariant-loop-column l =
    has_all (map string_bytes l.head.keys) (map string_bytes l.columns)
    ≡ has_all (map string_bytes l.head.keys) (map string_bytes (drop l.column-index l.columns))
