use Rattle.std.proofs.Common.{◌≡◌, ◌∙◌, ◌<◌, ◌≤◌, ◌++◌, Option, None, sym, ap, ap₂, map, get_or, length, replicate, arith, add-one, slice_set, append-nil}
use Rattle.std.proofs.lemmas.List.{get_or-map, map-set, length-map, length-replicate, drop_all, take_all}
use Rattle.lus_values.specs.Lists.{item}
use Rattle.lus_values.specs.Values.{Value}
use Rattle.lus_values.specs.View.{entry_of}
use Rattle.lus_orders.specs.Classes.{begun}
use Rattle.lus_orders.proofs.Lists.{begun_at, begun_done, begun_long, next_same}
use Rattle.lus_running.proofs.beginning.begin.Goals as goal

pub loop-place-preserved : goal.loop-place-preserved
loop-place-preserved g c =
    let entry = g.T.Held.entry in
    let i = c.loop-place.place in
    let inputs = c.args.inputs.now in
    let p = map entry_of inputs in
    let n = length c.empty.new.places in
    let target = begun n p in
    let held = c.in_ok-held.held in
    let x = c.index-inputs-place.result in
    let lt : i < n = c.loop-place-test.true in
    let among : i < length inputs = omega arith in
    let lt_new : i < length target = (let e = begun_long n p in omega (arith, e, lt)) in
    let lt_old : i < length (replicate n None) = (let e = length-replicate {A = Option Value} n None in omega (arith, e, lt)) in
    let input : item None p i ≡ entry_of x = get_or-map entry_of inputs i x None among ∙ ap entry_of (sym c.index-inputs-place.is) in
    let here : entry held ≡ get_or target i (entry held) = c.in_ok-held.ensures ∙ c.see.ensures ∙ sym (begun_at n i p (entry held) lt ∙ input) in
    rw add-one
    (map-set entry c.loop-place.own i held
    ∙ ap (λ l. slice_set l i (entry held)) c.loop-place.invariant
    ∙ next_same target (replicate n None) i (entry held) lt_new lt_old here)

pub returns-then-place-inputs : goal.returns-then-place-inputs
returns-then-place-inputs g c =
    let p = map entry_of c.args.inputs.now in
    let n = length c.empty.new.places in
    let past : length c.args.inputs.now ≤ c.loop-place.place = omega arith in
    c.loop-place.invariant
    ∙ begun_done n c.loop-place.place p (let e = length-map c.args.inputs.now entry_of in omega (arith, e, past))
    ∙ ap (λ m. begun m p) c.empty.auto.places

pub returns : goal.returns
returns g c =
    let i = c.loop-place.place in
    let p = map entry_of c.args.inputs.now in
    let n = length c.empty.new.places in
    let target = begun n p in
    let past : n ≤ i = c.loop-place-test.false in
    c.loop-place.invariant
    ∙ ap₂ (λ a b. a ++ b) (take_all i target (let e = begun_long n p in omega (arith, e, past)))
    (drop_all i (replicate n None) (let e = length-replicate {A = Option Value} n None in omega (arith, e, past)))
    ∙ append-nil target
    ∙ ap (λ m. begun m p) c.empty.auto.places
