-- The rest is without nil where the whole is.
use Rattle.std.proofs.Common.{◌≡◌, map, drop}
use Rattle.lus_values.specs.Values.{fields_of}
use Rattle.lus_values.specs.View.{value_of}
use Rattle.lus_streams.specs.Flags.{nil_free_fields}
use Rattle.lus_clocks.proofs.values.+values.Given as goal

abbrev pub invariant-are_nil_free-loop-field : goal.invariant-are_nil_free-loop-field
invariant-are_nil_free-loop-field l = nil_free_fields (fields_of (map value_of (drop l.field-index l.fields))) ≡ nil_free_fields (fields_of (map value_of l.fields))
