use Rattle.std.proofs.Common.{length}
use Rattle.lus_syntax.specs.Reading.{HasRoom}
use Rattle.lus_syntax.specs.Gaps.{IsGap}
use Rattle.lus_syntax.proofs.lexer.skip_gap.Given as goal

abbrev pub invariant-loop-n : goal.invariant-loop-n
invariant-loop-n l = record { so_far : IsGap l.fn.start l.bytes l.at l.rest; room : HasRoom l.at l.rest }

abbrev pub decreases-loop-n : goal.decreases-loop-n
decreases-loop-n l = length l.rest
