use Rattle.lus_graph.proofs.NoWayBack.{cycle_leads}
use Rattle.lus_syntax.specs.View.{tree_seen}
use Rattle.lus_source.specs.Loopless.{node_uses}
use Rattle.lus_source.specs.ScopeView.{Faulty}
use Rattle.lus_source.specs.declared.fault.Fault.{Fault}
use Rattle.lus_source.specs.declared.fault.Fault.TheVariants as faults
use Rattle.lus_source.proofs.loopless.order_of_nodes.Goals as goal

any_fault : {P : Type 0} → P → (e : Fault) → Faulty P e
any_fault p faults.Memory = tt
any_fault p (faults.At place cause) = p

pub returns-clause-refused : goal.returns-clause-refused
returns-clause-refused c = any_fault (λ none.
    let cycle = c.in-Err-Cycle.cycle.items in
    none _ (cycle_leads (node_uses (tree_seen c.args.named.now)) cycle (rw (c.deref.ensures.value, c.in_ok-uses.ensures, c.in-Err-Cycle.field-0-is) at c.in-Err-Cycle.ensures.cycle))) c.fault_at_call.result
