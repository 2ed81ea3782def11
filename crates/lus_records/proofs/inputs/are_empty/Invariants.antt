-- The cells so far are empty.
use Rattle.std.proofs.Common.{◌≡◌, drop, map, string_bytes}
use Rattle.std.specs.List.{list_all}
use Rattle.lus_records.specs.Records.{is_empty}
use Rattle.lus_records.specs.View.{cell_seen}
use Rattle.lus_records.proofs.inputs.are_empty.Given as goal

abbrev pub invariant-loop-column : goal.invariant-loop-column
invariant-loop-column l =
    list_all (λ c. is_empty (cell_seen l.cells c)) (map string_bytes l.columns)
    ≡ list_all (λ c. is_empty (cell_seen l.cells c)) (map string_bytes (drop l.column-index l.columns))
