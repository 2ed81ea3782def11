use Rattle.std.proofs.Common.{arith, sym, subst, ◌≡◌, take}
use Rattle.std.proofs.lemmas.List.{take_all}
use Rattle.lus_graph.proofs.AlongOrders.{filled_more, is_thing, next_right}
use Rattle.lus_graph.proofs.filling.along.Goals as goal

pub find-requires : goal.find-requires
find-requires g c = is_thing _ _ c.requires.order c.loop-thing.thing-index c.loop-thing-test.true

pub index_mut-requires : goal.index_mut-requires
index_mut-requires g c =
    let thing = is_thing _ _ c.requires.order c.loop-thing.thing-index c.loop-thing-test.true in
    omega (arith, thing, c.loop-thing.invariant.size)

pub loop-thing-preserved : goal.loop-thing-preserved
loop-thing-preserved g c =
    let found = rw c.deref.ensures.value at c.in-Some.ensures in
    filled_more _ _ _ _ c.requires.local c.args.order.now c.requires.order c.loop-thing.thing-index c.loop-thing-test.true c.loop-thing.table.items c.loop-thing.invariant c.in-Some.found found.0 found.1

pub returns-in_default-clause-refused : goal.returns-in_default-clause-refused
returns-in_default-clause-refused g c =
    let wrong = rw c.deref.ensures.value at c.in_default.ensures in (
      is_thing _ _ c.requires.order c.loop-thing.thing-index c.loop-thing-test.true,
      λ at s fits. wrong (subst (g.R.Rule.fits c.args.rule.now) (sym (next_right _ _ _ _ c.requires.local c.args.order.now c.requires.order c.loop-thing.thing-index c.loop-thing-test.true c.loop-thing.table.items c.loop-thing.invariant at s)) fits),
    )

pub returns-clause-found : goal.returns-clause-found
returns-clause-found g c =
    let all : take c.loop-thing.thing-index c.args.order.now ≡ c.args.order.now = take_all c.loop-thing.thing-index c.args.order.now c.loop-thing-test.false in
    rw all at c.loop-thing.invariant
