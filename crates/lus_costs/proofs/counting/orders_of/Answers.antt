use Rattle.std.proofs.Common.{◌≡◌, ◌<◌, ℕ, List, length, take, get_or, refl, arith}
use Rattle.std.proofs.lemmas.List.{take_all}
use Rattle.std.proofs.lemmas.Option.{slice_get_read}
use Rattle.lus_graph.specs.Ways.{IsOrder}
use Rattle.lus_graph.proofs.AlongOrders.{filled_more, is_thing}
use Rattle.lus_orders.specs.declared.class.Class.{Class}
use Rattle.lus_costs.specs.Costs.{code_uses}
use Rattle.lus_costs.proofs.Counted.{as_many, blank_filled, cut_local, filled_limited, step_found}
use Rattle.lus_costs.proofs.counting.orders_of.Goals as goal

-- what stands in an order is a class
in_order : (classes : List Class) (order : List ℕ) (i : ℕ) → IsOrder (code_uses classes) order → i < length order → get_or order i 0 < length classes
in_order classes order i is lt =
    let low = is_thing (code_uses classes) order is i lt in
    omega (arith, low, as_many classes)

pub loop-place-init : goal.loop-place-init
loop-place-init c = blank_filled c.args.classes.now c.in_ok-counts.counts.items (let size = c.in_ok-counts.ensures.len in let ok = c.in_ok-counts.counts.ok in omega (arith, size, ok))

pub bounds-classes-place : goal.bounds-classes-place
bounds-classes-place c = in_order c.args.classes.now c.args.order.now c.loop-place.place-index c.requires c.loop-place-test.true

pub offset_bounds-classes-place : goal.offset_bounds-classes-place
offset_bounds-classes-place c =
    let low = in_order c.args.classes.now c.args.order.now c.loop-place.place-index c.requires c.loop-place-test.true in
    omega (arith, low)

pub index_mut-requires : goal.index_mut-requires
index_mut-requires c =
    let low = is_thing (code_uses c.args.classes.now) c.args.order.now c.requires c.loop-place.place-index c.loop-place-test.true in
    let ok = c.loop-place.counts.ok in
    omega (arith, low, ok, c.loop-place.invariant.size)

pub loop-place-preserved : goal.loop-place-preserved
loop-place-preserved c =
    let classes = c.args.classes.now in
    let order = c.args.order.now in
    let l = c.loop-place in
    let low = in_order classes order l.place-index c.requires c.loop-place-test.true in
    let here = slice_get_read classes (length classes) (get_or order l.place-index 0) c.index-classes-place.result refl low c.index-classes-place.is in
    filled_more _ _ _ _ (cut_local classes) order c.requires l.place-index c.loop-place-test.true l.counts.items l.invariant c.class_orders-found.result
    (step_found classes l.counts.items (get_or order l.place-index 0) c.index-classes-place.result c.class_orders-found.result here (rw c.deref.ensures.value at c.class_orders-found.ensures))
    tt

pub returns : goal.returns
returns c =
    let all : take c.loop-place.place-index c.args.order.now ≡ c.args.order.now = take_all c.loop-place.place-index c.args.order.now c.loop-place-test.false in
    filled_limited c.args.classes.now c.args.order.now c.requires c.loop-place.counts.items (rw all at c.loop-place.invariant)
