use Rattle.lus_orders.proofs.Made.{code_makes_steps}
use Rattle.lus_orders.proofs.Realised.{codes_realise}
use Rattle.lus_orders.proofs.laws.code_makes_instants.Goals as goal

pub returns : goal.returns
returns c = λ plain classes codes. code_makes_steps plain classes (codes_realise plain classes codes)
