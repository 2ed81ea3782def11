-- Each piece is some bytes of what is left.
use Rattle.std.proofs.Common.{length}
use Rattle.lus_queries.proofs.colours.Painter.gap.Given as goal

abbrev pub decreases-loop-length : goal.decreases-loop-length
decreases-loop-length l = length l.rest
