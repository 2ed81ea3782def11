-- Fewer are left behind each read.
use Rattle.lus_framing.proofs.ahead.Ahead.pass.Given as goal

abbrev pub decreases-loop-left : goal.decreases-loop-left
decreases-loop-left g l = l.left
