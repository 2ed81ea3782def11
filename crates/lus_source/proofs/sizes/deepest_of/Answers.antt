use Rattle.std.proofs.Common.{arith}
use Rattle.std.proofs.lemmas.Grind.{common_steps}
use Rattle.lus_source.proofs.Measures.{greatest-append, greatest-one}
use Rattle.lus_source.proofs.sizes.deepest_of.Goals as goal

pub loop-place-preserved : goal.loop-place-preserved
loop-place-preserved c = grind (arith, common_steps, greatest-append, greatest-one)
