use Rattle.std.proofs.Common.{◌≡◌, ◌∙◌, ◌+◌, ◌<◌, ◌∷◌, suc, map, drop, drop-cons, length, sym, ap, arith}
use Rattle.lus_values.specs.Lists.{item}
use Rattle.lus_program.specs.View.{expression_of, node_of}
use Rattle.lus_streams.specs.Clocks.{clock_of}
use Rattle.lus_translation.specs.Firsts.{with_all}
use Rattle.lus_translation.specs.Forms.{kept_firsts, marked}
use Rattle.lus_translation.specs.Newest.{newest}
use Rattle.lus_translation.proofs.Flags.{flags_next}
use Rattle.lus_translation.proofs.firsts.firsts_of.Goals as goal

pub loop-equation-preserved : goal.loop-equation-preserved
loop-equation-preserved c =
    let f = node_of c.args.node.now in
    let qs = c.args.node.now.equations.items in
    let i = c.loop-equation.equation-index in
    let q = c.equation-item.result in
    let old = c.loop-equation.firsts in
    let lt : i < length qs = rw c.deref-equation-items.ensures.value at c.loop-equation-test.true in
    let is : q ≡ _ = rw c.deref-equation-items.ensures.value at c.equation-item.is in
    let next : i + 1 ≡ suc i = omega arith in
    let rest : drop i qs ≡ q ∷ drop (i + 1) qs = drop-cons qs i q lt ∙ (λ j. sym is j ∷ drop (sym next j) qs) in
    let k : c.deref.result.now ≡ clock_of f (item 0 q.targets.items 0) = c.deref.ensures.value ∙ c.in_ok-clock.ensures in
    flags_next old c.add_firsts.new.firsts _ (kept_firsts (expression_of q.right) (clock_of f (item 0 q.targets.items 0))) (marked f (drop (i + 1) qs))
    (rw k at c.in_ok-add_firsts.ensures) (ap (λ rs. with_all old (map newest (marked f rs))) (sym rest) ∙ c.loop-equation.invariant)
