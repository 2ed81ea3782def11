use Rattle.lus_orders.proofs.Made.{code_makes_steps}
use Rattle.lus_orders.proofs.laws.code_makes_steps.Goals as goal

pub returns : goal.returns
returns c = code_makes_steps
