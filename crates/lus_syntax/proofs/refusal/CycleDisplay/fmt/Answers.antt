use Rattle.std.proofs.Common.{codes, arith, rules}
use Rattle.std.proofs.Output.{has_written_append, has_written_of_eq}
use Rattle.lus_syntax.proofs.Cycles.{names_more}
use Rattle.lus_syntax.proofs.refusal.CycleDisplay.fmt.Goals as goal

pub loop-name-preserved : goal.loop-name-preserved
loop-name-preserved g c = λ p.
    has_written_of_eq _ _ _ _ _
    (names_more (codes "cycle") c.names-names.result.now c.loop-name.name-index c.name-item.result (omega arith) c.name-item.is)
    (has_written_append _ _ _ _ _ _ (c.loop-name.invariant p) (search rules))
