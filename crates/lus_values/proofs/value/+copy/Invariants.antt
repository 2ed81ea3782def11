use Rattle.std.proofs.Common.{◌≡◌, map, take}
use Rattle.lus_values.specs.View.{value_of}
use Rattle.lus_values.proofs.value.+copy.Given as goal

abbrev pub invariant-copy_structure-loop-field : goal.invariant-copy_structure-loop-field
invariant-copy_structure-loop-field l = map value_of l.copies.items ≡ map value_of (take l.field-index l.fields)
