use Rattle.std.proofs.Common.{length}
use Rattle.lus_types.proofs.elaboration.kinds.+all_are.Given as goal

abbrev pub decreases-all_are : goal.decreases-all_are
decreases-all_are l = length l.kinds.now
