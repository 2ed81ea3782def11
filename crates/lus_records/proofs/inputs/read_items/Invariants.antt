-- The items so far come before those of the inputs that are left.
use Rattle.std.proofs.Common.{◌≡◌, ◌++◌, drop, map, option_map}
use Rattle.lus_values.specs.View.{entry_of}
use Rattle.lus_program.specs.View.{program_seen, variable_of}
use Rattle.lus_scripts.specs.Forms.{each}
use Rattle.lus_records.specs.Records.{item_in}
use Rattle.lus_records.specs.View.{cell_seen}
use Rattle.lus_records.proofs.inputs.read_items.Given as goal

abbrev pub invariant-loop-input : goal.invariant-loop-input
invariant-loop-input l =
    each (item_in (program_seen l.program) l.names (cell_seen l.cells)) (map variable_of l.inputs)
    ≡ option_map (λ rest. map entry_of l.items.items ++ rest)
    (each (item_in (program_seen l.program) l.names (cell_seen l.cells)) (map variable_of (drop l.input-index l.inputs)))
