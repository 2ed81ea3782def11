use Rattle.std.proofs.Common.{arith}
use Rattle.std.proofs.lemmas.Grind.{common_steps}
use Rattle.lus_source.proofs.Measures.{greatest-append}
use Rattle.lus_source.proofs.sizes.deepest_field.Goals as goal

pub loop-field-preserved : goal.loop-field-preserved
loop-field-preserved c = grind (arith, common_steps, greatest-append)
