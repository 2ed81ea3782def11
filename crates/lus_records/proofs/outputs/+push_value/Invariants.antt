-- Behind the old cells stand those of the fields so far.
use Rattle.std.proofs.Common.{◌≡◌, ◌++◌, flat_map, map, take, string_bytes}
use Rattle.lus_values.specs.View.{value_of}
use Rattle.lus_records.specs.Outputs.{value_cells}
use Rattle.lus_records.proofs.outputs.+push_value.Given as goal

abbrev pub invariant-loop-field : goal.invariant-loop-field
invariant-loop-field l =
    map string_bytes l.cells.items
    ≡ map string_bytes l.initial.cells.items ++ flat_map (value_cells l.names) (map value_of (take l.field-index l.field-items))
