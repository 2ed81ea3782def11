use Rattle.lus_graph.proofs.NoWayBack.{order_has_none, cycle_leads}
use Rattle.lus_graph.proofs.laws.orders_have_no_cycle.Goals as goal

pub returns : goal.returns
returns c = record { order = λ uses order o. order_has_none uses order o; cycle = λ uses cycle o. cycle_leads uses cycle o }
