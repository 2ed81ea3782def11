use Rattle.std.proofs.Common.{◌≡◌, Some, length, refl, slice_get, arith}
use Rattle.std.proofs.lemmas.Option.{slice_get_read}
use Rattle.lus_values.specs.Lists.{item}
use Rattle.lus_costs.specs.Costs.{IsCostOfClass}
use Rattle.lus_costs.specs.Places.{place_bytes}
use Rattle.lus_costs.proofs.CodeCosts.{node_bounded, node_costs}
use Rattle.lus_costs.proofs.code.cost_in.Goals as goal

-- the class of the node, and what it costs by the table
found : (c : goal.After-cost_of) → slice_get c.args.code.now.emitted c.args.node.0 ≡ Some c.index-emitted-place.result
found c =
    let correct = c.classes-classes.ensures.correct in
    let size = correct.size in
    let many = correct.many in
    let node = c.requires.node in
    slice_get_read c.args.code.now.emitted (length c.args.code.now.emitted) c.args.node.0 c.index-emitted-place.result refl (omega (arith, size, many, node))
    (rw c.emitted.ensures at c.index-emitted-place.is)

costs : (c : goal.After-cost_of) → IsCostOfClass (place_bytes c.args.code.now.source.program) c.index-emitted-place.result (item 0 c.args.orders.now c.args.node.0) c.cost_of.result
costs c = rw c.program.ensures.same at c.cost_of.ensures

pub returns-clause-exact : goal.returns-clause-exact
returns-clause-exact c =
    node_costs c.args.code.now.emitted c.args.orders.now c.requires.orders (place_bytes c.args.code.now.source.program) c.args.node.0 c.index-emitted-place.result (found c)
    c.cost_of.result (costs c)

pub returns-clause-bound : goal.returns-clause-bound
returns-clause-bound c =
    node_bounded c.args.code.now.emitted c.args.orders.now c.requires.orders (place_bytes c.args.code.now.source.program) c.args.node.0 c.index-emitted-place.result (found c)
    c.cost_of.result (costs c)
