-- The cells so far come before those of the outputs that are left.
use Rattle.std.proofs.Common.{◌≡◌, ◌++◌, drop, map, string_bytes}
use Rattle.lus_program.specs.View.{program_seen, variable_of}
use Rattle.lus_records.specs.Outputs.{cells_from}
use Rattle.lus_records.proofs.outputs.row_cells.Given as goal

abbrev pub invariant-loop-place : goal.invariant-loop-place
invariant-loop-place l =
    map string_bytes l.cells.items ++ cells_from (program_seen l.program) l.names l.place (map variable_of (drop l.place l.outputs)) l.row
    ≡ cells_from (program_seen l.program) l.names 0 (map variable_of l.outputs) l.row
