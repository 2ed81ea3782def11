use Rattle.std.proofs.Common.{◌+◌, ◌*◌, map}
use Rattle.lus_values.specs.Values.{fields_of}
use Rattle.lus_values.specs.View.{value_of}
use Rattle.lus_leaves.specs.Fits.{FieldsFit}
use Rattle.lus_leaves.proofs.Only.{GoesOn}
use Rattle.lus_leaves.specs.Reading.{AreFields}
use Rattle.lus_leaves.proofs.reading.+read.Given as goal

abbrev pub decreases-read : goal.decreases-read
decreases-read l = 2 * l.depth

abbrev pub decreases-read_fields : goal.decreases-read_fields
decreases-read_fields l = 2 * l.depth + 1

abbrev pub invariant-read_fields-loop-field : goal.invariant-read_fields-loop-field
invariant-read_fields-loop-field l = record {
  read : AreFields l.leaves l.start l._field l.fields.items l.at;
  fits : FieldsFit l.depth (fields_of (map value_of l.fields.items));
  only : GoesOn l.depth l.leaves l.start l.count l.fields.items l.at l._field;
}
