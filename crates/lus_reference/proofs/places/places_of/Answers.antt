-- All equations were gone through.
use Rattle.std.proofs.Common.{◌≡◌, ◌∙◌, ◌≤◌, ◌<◌, [], drop, drop_of_length-le, length, None, sym, ap, subst, arith}
use Rattle.lus_values.specs.Lists.{item}
use Rattle.lus_reference.specs.Placed.{blank}
use Rattle.lus_reference.proofs.Placed.{all_items, all_length, set_equations}
use Rattle.lus_reference.proofs.places.places_of.Goals as goal

pub returns : goal.returns
returns c =
    let qs = c.args.node.now.equations.items in
    let n = length c.args.node.now.variables.items in
    let i = c.loop-place.place in
    let at : i ≡ length qs = rw c.deref-equation-items.ensures.value at (let e : i ≡ length c.deref-equation-items.result.now = omega arith in e) in
    let done : drop i qs ≡ [] = drop_of_length-le qs (let le : length qs ≤ i = omega (arith, at) in le) in
    let all : c.loop-place.places.items ≡ set_equations (blank n) qs 0 0 0 =
    ap (λ l. set_equations c.loop-place.places.items l i c.loop-place.before.parts c.loop-place.before.calls) (sym done) ∙ c.loop-place.invariant in
    let long = ap length all ∙ all_length n qs in
    record { count = long; each = λ x lt. ap (λ l. item None l x) all ∙ all_items n qs x (subst (λ m. x < m) long lt) }
