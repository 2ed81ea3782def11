-- The items so far come before those that are left.
use Rattle.std.proofs.Common.{◌≡◌, ◌++◌, drop, map, option_map}
use Rattle.serde_json.specs.View.{view}
use Rattle.lus_values.specs.View.{entry_of}
use Rattle.lus_program.specs.View.{node_of, program_seen}
use Rattle.lus_scripts.specs.Scripts.{row_from}
use Rattle.lus_scripts.proofs.value.read_row.Given as goal

abbrev pub invariant-loop-place : goal.invariant-loop-place
invariant-loop-place l =
    row_from (program_seen l.program) l.names (option_map (λ f. node_of f.now) l.node) 0 (map view l.items)
    ≡ option_map (λ rest. map entry_of l.row.items ++ rest)
    (row_from (program_seen l.program) l.names (option_map (λ f. node_of f.now) l.node) l.place (map view (drop l.place l.items)))
