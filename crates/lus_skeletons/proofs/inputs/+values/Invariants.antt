-- Levels grow fewer; an object's fields come after the object.
use Rattle.std.proofs.Common.{◌+◌, ◌*◌}
use Rattle.lus_skeletons.proofs.inputs.+values.Given as goal

abbrev pub decreases-push_value : goal.decreases-push_value
decreases-push_value l = 2 * l.levels

abbrev pub decreases-push_fields : goal.decreases-push_fields
decreases-push_fields l = 2 * l.levels + 1
