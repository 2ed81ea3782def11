-- Fields of the head were read.
use Rattle.lus_framing.proofs.FrameLaws.{IsBegun}
use Rattle.lus_framing.proofs.reading.read_head.Given as goal

abbrev pub invariant-loop-number : goal.invariant-loop-number
invariant-loop-number g l = IsBegun l.number l.length (g.S.Source.left l.initial.source) (g.S.Source.left l.source)
