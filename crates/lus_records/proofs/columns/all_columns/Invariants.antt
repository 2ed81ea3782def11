-- The columns so far are those of the variables so far.
use Rattle.std.proofs.Common.{◌≡◌, flat_map, map, take, string_bytes}
use Rattle.lus_program.specs.View.{program_seen, variable_of}
use Rattle.lus_records.specs.Columns.{columns_of}
use Rattle.lus_records.proofs.columns.all_columns.Given as goal

abbrev pub invariant-loop-variable : goal.invariant-loop-variable
invariant-loop-variable l =
    map string_bytes l.columns.items ≡ flat_map (columns_of (program_seen l.program)) (map variable_of (take l.variable-index l.variables))
