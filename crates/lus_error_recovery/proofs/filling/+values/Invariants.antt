-- Levels grow fewer.
use Rattle.std.proofs.Common.{◌+◌, ◌*◌}
use Rattle.lus_error_recovery.proofs.filling.+values.Given as goal

abbrev pub decreases-value_of : goal.decreases-value_of
decreases-value_of l = 2 * l.levels

abbrev pub decreases-fields_of : goal.decreases-fields_of
decreases-fields_of l = 2 * l.levels + 1
