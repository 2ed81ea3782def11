use Rattle.std.proofs.Common.{arith}
use Rattle.std.proofs.lemmas.Grind.{common_steps}
use Rattle.lus_source.proofs.uses.definition_uses.Goals as goal

pub loop-group-preserved : goal.loop-group-preserved
loop-group-preserved c = grind (arith, common_steps)

pub returns-after-loop-group : goal.returns-after-loop-group
returns-after-loop-group c = grind (arith, common_steps)
