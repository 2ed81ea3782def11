use Rattle.std.proofs.Common.{arith, ◌≡◌, ◌∙◌, ◌+◌, ◌∷◌, ◌&&◌, ap, drop, map, sym, true}
use Rattle.std.proofs.lemmas.Grind.{common_steps}
use Rattle.std.specs.List.{list_all}
use Rattle.lus_syntax.specs.View.{equation_seen}
use Rattle.lus_source.specs.Named.{has_left}
use Rattle.lus_source.proofs.Lookups.{drop_step}
use Rattle.lus_source.proofs.left.without_left.Goals as goal

pub loop-equation-preserved : goal.loop-equation-preserved
loop-equation-preserved c =
    let all = c.deref-equation-items.result.now in
    let i = c.loop-equation.equation-index in
    let x = c.equation-item.result in
    let rest = list_all has_left (map equation_seen (drop (i + 1) all)) in
    let split : map equation_seen (drop i all) ≡ equation_seen x ∷ map equation_seen (drop (i + 1) all) = ap (map equation_seen) (drop_step all i x c.loop-equation-test.true c.equation-item.is) in
    let some : has_left (equation_seen x) ≡ true = grind (arith, common_steps) in
    rw (sym c.deref-equation-items.ensures.value) (sym (ap (list_all has_left) split ∙ ap (λ b. b && rest) some) ∙ (rw (sym c.deref-equation-items.ensures.value) at c.loop-equation.invariant))
