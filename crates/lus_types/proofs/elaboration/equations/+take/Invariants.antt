use Rattle.std.proofs.Common.{length}
use Rattle.lus_types.proofs.elaboration.equations.+take.Given as goal

abbrev pub decreases-take : goal.decreases-take
decreases-take l = length l.kinds.now
