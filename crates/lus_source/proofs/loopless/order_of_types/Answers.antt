use Rattle.lus_graph.proofs.NoWayBack.{cycle_leads}
use Rattle.lus_syntax.specs.View.{tree_seen}
use Rattle.lus_source.specs.Loopless.{type_uses}
use Rattle.lus_source.proofs.loopless.order_of_types.Goals as goal

pub returns-clause-refused : goal.returns-clause-refused
returns-clause-refused c none =
    let cycle = c.in-Err-Cycle.cycle.items in
    none _ (cycle_leads (type_uses (tree_seen c.args.named.now)) cycle (rw (c.deref.ensures.value, c.in_ok-uses.ensures, c.in-Err-Cycle.field-0-is) at c.in-Err-Cycle.ensures.cycle))
