-- Levels grow fewer; behind the old columns stand those of the fields so far.
use Rattle.std.proofs.Common.{◌≡◌, ◌++◌, ◌+◌, ◌*◌, flat_map, map, take, string_bytes}
use Rattle.lus_program.specs.View.{field_of, program_seen}
use Rattle.lus_records.specs.Columns.{columns_at, field_column}
use Rattle.lus_records.proofs.columns.+columns.Given as goal

abbrev pub decreases-push_columns : goal.decreases-push_columns
decreases-push_columns l = 2 * l.levels

abbrev pub decreases-push_fields : goal.decreases-push_fields
decreases-push_fields l = 2 * l.levels + 1

abbrev pub invariant-push_fields-loop-field : goal.invariant-push_fields-loop-field
invariant-push_fields-loop-field l =
    map string_bytes l.columns.items
    ≡ map string_bytes l.initial.columns.items
    ++ flat_map (λ f. columns_at l.levels (program_seen l.program) f.kind (field_column l.column f.name)) (map field_of (take l.field-index l.fields))
