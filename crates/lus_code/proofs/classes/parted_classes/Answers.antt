use Rattle.std.proofs.Common.{◌≡◌, ◌∙◌, ◌<◌, ◌++◌, ◌∷◌, [], length, map, sym, ap, subst, arith, rules}
use Rattle.std.proofs.lemmas.List.{get_or-map, length-map}
use Rattle.lus_values.specs.Lists.{item}
use Rattle.lus_program.specs.Programs.{node_at}
use Rattle.lus_program.specs.View.{node_of, program_seen}
use Rattle.lus_normal_form.specs.Ready.{IsDefined, IsReady}
use Rattle.lus_order.specs.Orders.{OrdersVariables}
use Rattle.lus_order.proofs.Nodes.{node_here}
use Rattle.lus_turns.specs.Turned.{IsTurned}
use Rattle.lus_code.proofs.MadeClasses.{more_turned}
use Rattle.lus_code.proofs.Parted.{more_parts}
use Rattle.lus_code.proofs.classes.parted_classes.Goals as goal

-- the node that the loop is at
at_node : (c : goal.After-deref) → node_at (program_seen c.args.program.now) c.loop-place.place ≡ node_of c.node-item.result
at_node c =
    let p = c.args.program.now in
    let nodes = p.nodes.items in
    let place = c.loop-place.place in
    let node = c.node-item.result in
    let within : place < length nodes = subst (λ l. place < length l) c.deref-node-items.ensures.value c.loop-place-test.true in
    let here : node ≡ item node nodes place = c.node-item.is ∙ ap (λ l. item node l place) c.deref-node-items.ensures.value in
    node_here p place node within here

pub class_of-requires-clause-ready : goal.class_of-requires-clause-ready
class_of-requires-clause-ready c = subst (IsReady (program_seen c.args.program.now)) (at_node c) (c.requires.ready.numbered c.loop-place.place).0

pub class_of-requires-clause-defined : goal.class_of-requires-clause-defined
class_of-requires-clause-defined c = subst (IsDefined (program_seen c.args.program.now)) (at_node c) (c.requires.ready.numbered c.loop-place.place).1

pub class_of-requires-clause-order : goal.class_of-requires-clause-order
class_of-requires-clause-order c =
    let p = c.args.program.now in
    let place = c.loop-place.place in
    let order = c.index-orders-place.result in
    let within : place < length p.nodes.items = subst (λ l. place < length l) c.deref-node-items.ensures.value c.loop-place-test.true in
    let nodes = length-map p.nodes.items node_of in
    let low : place < length (program_seen p).nodes = omega (arith, within, nodes) in
    let size = c.requires.orders.size in
    let long = length-map c.args.orders.now (λ o. o.items) in
    let inside : place < length c.args.orders.now = omega (arith, low, size, long) in
    let same : item [] (map (λ o. o.items) c.args.orders.now) place ≡ order.items = get_or-map (λ o. o.items) c.args.orders.now place order [] inside ∙ ap (λ o. o.items) (sym c.index-orders-place.is) in
    let ordered = subst (λ f. OrdersVariables f (item [] (map (λ o. o.items) c.args.orders.now) place)) (at_node c) (c.requires.orders.each place low) in
    subst (OrdersVariables (node_of c.node-item.result)) (same ∙ sym c.deref.ensures.value) ordered

pub loop-place-preserved : goal.loop-place-preserved
loop-place-preserved c =
    let p = c.args.program.now in
    let place = c.loop-place.place in
    let nodes = p.nodes.items in
    let node = c.node-item.result in
    let class = c.in_ok-made.made.0 in
    let parts = c.in_ok-made.made.1 in
    let was = c.loop-place.invariant in
    let within : place < length nodes = subst (λ l. place < length l) c.deref-node-items.ensures.value c.loop-place-test.true in
    let here : node ≡ item node nodes place = c.node-item.is ∙ ap (λ l. item node l place) c.deref-node-items.ensures.value in
    let turned = subst (λ f. IsTurned (program_seen p) f class) (sym (node_here p place node within here)) c.in_ok-made.ensures.turned in
    let classes_pushed : c.push.new.self.items ≡ c.loop-place.classes.items ++ class ∷ [] = search rules in
    let parts_pushed : c.push-in-loop-place.new.self.items ≡ c.loop-place.parts.items ++ parts ∷ [] = search rules in
    record {
      turned = rw classes_pushed (more_turned (program_seen p) place c.loop-place.classes.items class was.turned turned);
      parts = rw classes_pushed (rw parts_pushed (more_parts c.loop-place.classes.items c.loop-place.parts.items class parts was.many was.parts c.in_ok-made.ensures.parts));
      many = search rules;
    }
