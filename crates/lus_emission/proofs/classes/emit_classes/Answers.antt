use Rattle.std.proofs.Common.{◌∙◌, ◌<◌, ℕ, Contains, List, Vec, length, take_all, get_or, refl, sym, subst, arith}
use Rattle.std.specs.Global.{Global}
use Rattle.std.proofs.lemmas.List.{get_or_default, length-map}
use Rattle.std.proofs.lemmas.Option.{same_Some, slice_get_read}
use Rattle.lus_values.specs.Lists.{Each}
use Rattle.lus_graph.specs.Ways.{IsOrder}
use Rattle.lus_classes.specs.Parts.{ArePartsOf}
use Rattle.lus_instructions.specs.declared.class.Class.{Class}
use Rattle.lus_instructions.specs.declared.class.Part.{Part}
use Rattle.lus_orders.specs.declared.class.Class.{Class as Emitted}
use Rattle.lus_emission.specs.Made.{CanBeCounted, IsEmitted}
use Rattle.lus_emission.specs.Sources.{KeepTo, class_uses, nodes_of}
use Rattle.lus_emission.proofs.Underway.{IsUnderway, all_code, all_framed, next_calls, next_counted, next_parts, underway_first, underway_step}
use Rattle.lus_emission.proofs.classes.emit_classes.Goals as goal

-- what stands in an order is a class
in_order : (classes : List Class) (order : List ℕ) (i : ℕ) → IsOrder (class_uses classes) order → i < length order → get_or order i 0 < length classes
in_order classes order i is lt =
    let x = get_or order i 0 in
    let low = is.within x (i, lt, get_or_default order i x 0 lt) in
    let long = length-map classes nodes_of in
    omega (arith, low, long)

-- and all classes stand in it
all_in_order : (classes : List Class) (order : List ℕ) → IsOrder (class_uses classes) order → (g : ℕ) → g < length classes → Contains order g
all_in_order classes order is g lt = is.whole g (let long = length-map classes nodes_of in omega (arith, lt, long))

pub loop-place-init : goal.loop-place-init
loop-place-init c = λ counts keep.
    underway_first c.args.classes.now counts c.args.parts.now c.in_ok-emitted.emitted.items c.args.order.now c.in_ok-emitted.ensures.size c.in_ok-emitted.ensures.blank

pub taken-own-requires : goal.taken-own-requires
taken-own-requires c =
    let low = in_order c.args.classes.now c.args.order.now c.loop-place.place-index c.requires.order c.loop-place-test.true in
    let long = c.loop-place.auto.parts in
    let size = c.requires.size in
    omega (arith, low, long, size)

pub bounds-classes-place : goal.bounds-classes-place
bounds-classes-place c = in_order c.args.classes.now c.args.order.now c.loop-place.place-index c.requires.order c.loop-place-test.true

pub index_mut-requires : goal.index_mut-requires
index_mut-requires c =
    let low = in_order c.args.classes.now c.args.order.now c.loop-place.place-index c.requires.order c.loop-place-test.true in
    let few = c.requires.few in
    let size = (c.loop-place.invariant few.counts few.counted).size in
    let long = c.loop-place.emitted.ok in
    omega (arith, low, size, long)

pub emit_class-requires : goal.emit_class-requires
emit_class-requires c =
    let classes = c.args.classes.now in
    let order = c.args.order.now in
    let few = c.requires.few in
    let l = c.loop-place in
    let i = l.place-index in
    let x = get_or order i 0 in
    let k = c.index-classes-place.result in
    let low = in_order classes order i c.requires.order c.loop-place-test.true in
    let here = slice_get_read classes (length classes) x k refl low c.index-classes-place.is in
    let is = l.invariant few.counts few.counted in
    let own = next_parts classes few.counts c.args.parts.now l.emitted.items l.parts order i k c.requires.order c.requires.classes c.loop-place-test.true is here c.requires.parts in
    let same = same_Some own.own c.taken-own.result (sym own.found ∙ c.taken-own.ensures.taken) in
    let can = c.requires.classes x k here in
    record {
      turns = can.turns;
      wide = can.wide;
      parts = subst (λ (ps : Vec Part Global). ArePartsOf k ps.items) same own.are;
      calls = subst (λ (es : List Emitted). Each (λ q. q.node < length es) k.calls.items) (sym c.deref.ensures.value)
          (next_calls classes few.counts c.args.parts.now l.emitted.items l.parts order i k c.requires.order c.requires.classes c.loop-place-test.true is here);
      counted = subst (λ (es : List Emitted). CanBeCounted es k) (sym c.deref.ensures.value)
          (next_counted classes few.counts c.args.parts.now l.emitted.items l.parts order i k c.requires.order c.requires.classes c.loop-place-test.true is here c.requires.many
          (few.counted x k here) (few.small x));
    }

pub loop-place-preserved : goal.loop-place-preserved
loop-place-preserved c = λ counts keep.
    let classes = c.args.classes.now in
    let order = c.args.order.now in
    let l = c.loop-place in
    let i = l.place-index in
    let x = get_or order i 0 in
    let k = c.index-classes-place.result in
    let low = in_order classes order i c.requires.order c.loop-place-test.true in
    let here = slice_get_read classes (length classes) x k refl low c.index-classes-place.is in
    let made : IsEmitted l.emitted.items k c.in_ok-code.code =
    subst (λ (es : List Emitted). IsEmitted es k c.in_ok-code.code) c.deref.ensures.value c.in_ok-code.ensures in
    underway_step classes counts c.args.parts.now l.emitted.items l.parts order i k c.requires.order c.requires.classes c.loop-place-test.true (l.invariant counts keep) here
    c.taken-own.new.parts c.in_ok-code.code (keep x k here) c.taken-own.ensures.others made

pub returns : goal.returns
returns c =
    let l = c.loop-place in
    let classes = c.args.classes.now in
    let order = c.args.order.now in
    let few = c.requires.few in
    let done = take_all l.place-index order (omega arith) in
    let whole = λ (counts : List ℕ) (keep : KeepTo counts classes). subst (IsUnderway classes counts c.args.parts.now l.emitted.items l.parts) done (l.invariant counts keep) in
    let is = whole few.counts few.counted in
    record {
      size = is.size;
      framed = all_framed classes few.counts c.args.parts.now l.emitted.items l.parts order is c.requires.classes (all_in_order classes order c.requires.order);
      code = all_code classes few.counts c.args.parts.now l.emitted.items l.parts order is c.requires.classes (all_in_order classes order c.requires.order);
      within = λ counts keep. (whole counts keep).cells;
    }
