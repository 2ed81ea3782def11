-- The rows so far come before those of the lists that are left.
use Rattle.std.proofs.Common.{◌≡◌, ◌++◌, drop, map, option_map}
use Rattle.serde_json.specs.View.{view}
use Rattle.lus_program.specs.View.{node_of, program_seen}
use Rattle.lus_scripts.specs.Forms.{each}
use Rattle.lus_scripts.specs.Scripts.{listed_row}
use Rattle.lus_scripts.proofs.value.read_rows.Given as goal

abbrev pub invariant-loop-list : goal.invariant-loop-list
invariant-loop-list l =
    each (listed_row (program_seen l.program) l.names (option_map (λ f. node_of f.now) l.node)) (map view l.lists)
    ≡ option_map (λ rest. l.rows.items ++ rest)
    (each (listed_row (program_seen l.program) l.names (option_map (λ f. node_of f.now) l.node)) (map view (drop l.list-index l.lists)))
