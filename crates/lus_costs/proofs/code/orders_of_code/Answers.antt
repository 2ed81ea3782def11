use Rattle.std.proofs.Common.{◌∙◌, ap, subst}
use Rattle.lus_graph.specs.Ways.{IsOrder}
use Rattle.lus_program.specs.declared.node.Program.{Program}
use Rattle.lus_program.specs.Resolved.{program_uses}
use Rattle.lus_program.specs.View.{program_seen}
use Rattle.lus_order.specs.OrderedPrograms.{OrderedProgram}
use Rattle.lus_costs.proofs.CodeOrders.{code_ordered}
use Rattle.lus_costs.proofs.code.orders_of_code.Goals as goal

pub orders_of-requires : goal.orders_of-requires
orders_of-requires c =
    let code = c.args.code.now in
    let same = c.sound-sound.ensures.same ∙ c.clocked.ensures.same ∙ c.initialised.ensures.same ∙ ap (λ (s : OrderedProgram). s.program) c.source.ensures.same in
    let order = subst (λ (p : Program). IsOrder (program_uses (program_seen p)) c.nodes.result.now) same c.nodes.ensures in
    rw c.emitted.ensures (code_ordered code c.classes-classes.ensures.correct c.nodes.result.now order)
