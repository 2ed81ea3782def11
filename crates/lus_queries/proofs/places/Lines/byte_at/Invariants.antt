-- Less is left behind each byte.
use Rattle.std.proofs.Common.{length}
use Rattle.lus_queries.proofs.places.Lines.byte_at.Given as goal

abbrev pub decreases-loop-byte : goal.decreases-loop-byte
decreases-loop-byte l = length l.rest
