-- Levels grow fewer; the values so far come before those of the fields that are left.
use Rattle.std.proofs.Common.{◌≡◌, ◌++◌, ◌+◌, ◌*◌, drop, map, option_map, Some}
use Rattle.std.specs.Prelude.{option_and_then}
use Rattle.serde_json.specs.Find.{get}
use Rattle.serde_json.specs.View.{view}
use Rattle.lus_values.specs.View.{value_of}
use Rattle.lus_program.specs.View.{field_of, program_seen}
use Rattle.lus_scripts.specs.Forms.{each}
use Rattle.lus_scripts.specs.Scripts.{value_at}
use Rattle.lus_scripts.proofs.value.+values.Given as goal

abbrev pub decreases-read_value : goal.decreases-read_value
decreases-read_value l = 2 * l.levels

abbrev pub decreases-read_fields : goal.decreases-read_fields
decreases-read_fields l = 2 * l.levels + 1

abbrev pub invariant-read_fields-loop-field : goal.invariant-read_fields-loop-field
invariant-read_fields-loop-field l =
    each (λ f. option_and_then (value_at l.levels (program_seen l.program) l.names (Some f.kind)) (get f.name (view l.object))) (map field_of l.fields)
    ≡ option_map (λ rest. map value_of l.values.items ++ rest)
    (each (λ f. option_and_then (value_at l.levels (program_seen l.program) l.names (Some f.kind)) (get f.name (view l.object))) (map field_of (drop l.field-index l.fields)))
