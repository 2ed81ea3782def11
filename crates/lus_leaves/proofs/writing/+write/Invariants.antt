use Rattle.std.proofs.Common.{◌∷◌, pos, length, map, take}
use Rattle.lus_values.specs.Values.{fields_of}
use Rattle.lus_values.specs.View.{value_of}
use Rattle.lus_leaves.specs.Leaves.{leaf, fields_leaves}
use Rattle.lus_leaves.specs.Writing.{IsWritten}
use Rattle.lus_leaves.proofs.writing.+write.Given as goal

abbrev pub invariant-write_structure-loop-field : goal.invariant-write_structure-loop-field
invariant-write_structure-loop-field l =
    IsWritten l.fn.leaves l.at (leaf 4 0 (pos (length l.fields)) ∷ fields_leaves (fields_of (map value_of (take l.field-index l.fields)))) l.leaves l.behind
