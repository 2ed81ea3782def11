use Rattle.std.proofs.Common.{◌≡◌, ◌∙◌, ◌<◌, ◌≤◌, ◌++◌, Option, None, sym, ap, ap₂, map, get_or, length, replicate, arith, add-one, slice_set, append-nil}
use Rattle.std.proofs.lemmas.List.{map-set, length-map, length-replicate, drop_all, take_all}
use Rattle.lus_values.specs.Values.{Value}
use Rattle.lus_orders.proofs.Lists.{next_same, none_at}
use Rattle.lus_orders.proofs.emptying.empty.Goals as goal

pub loop-place-preserved : goal.loop-place-preserved
loop-place-preserved g c =
    let entry = g.T.Held.entry in
    let i = c.loop-place.place in
    let n = length c.args.places.now in
    let old = map entry c.args.places.now in
    let target = replicate n None in
    let held = c.of_word.result in
    let lt : i < n = c.loop-place-test.true in
    let lt_new : i < length target = (let e = length-replicate {A = Option Value} n None in omega (arith, e, lt)) in
    let lt_old : i < length old = (let e = length-map c.args.places.now entry in omega (arith, e, lt)) in
    let here : entry held ≡ get_or target i (entry held) = c.of_word.ensures ∙ sym (none_at n i (entry held) lt) in
    rw add-one
    (map-set entry c.loop-place.places i held
    ∙ ap (λ l. slice_set l i (entry held)) c.loop-place.invariant
    ∙ next_same target old i (entry held) lt_new lt_old here)

pub returns : goal.returns
returns g c =
    let entry = g.T.Held.entry in
    let i = c.loop-place.place in
    let n = length c.args.places.now in
    let old = map entry c.args.places.now in
    let target = replicate n None in
    let past : n ≤ i = c.loop-place-test.false in
    c.loop-place.invariant
    ∙ ap₂ (λ a b. a ++ b) (take_all i target (let e = length-replicate {A = Option Value} n None in omega (arith, e, past)))
    (drop_all i old (let e = length-map c.args.places.now entry in omega (arith, e, past)))
    ∙ append-nil target
