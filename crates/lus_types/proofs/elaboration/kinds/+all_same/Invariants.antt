use Rattle.std.proofs.Common.{length}
use Rattle.lus_types.proofs.elaboration.kinds.+all_same.Given as goal

abbrev pub decreases-all_same : goal.decreases-all_same
decreases-all_same l = length l.left.now
