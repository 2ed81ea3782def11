-- One more, and all of them.
use Rattle.std.proofs.Common.{◌≡◌, ◌∙◌, suc, ◌+◌, ◌∷◌, ◌++◌, [], None, ap, arith}
use Rattle.lus_reference.specs.Placed.{blank}
use Rattle.lus_reference.proofs.Placed.{blank_more}
use Rattle.lus_reference.proofs.places.no_places.Goals as goal

pub loop-variable-preserved : goal.loop-variable-preserved
loop-variable-preserved c =
    let i = c.loop-variable._variable in
    let next : suc i ≡ i + 1 = omega arith in
    c.in_ok-push.ensures.items ∙ ap (λ l. l ++ None ∷ []) c.loop-variable.invariant ∙ blank_more i ∙ ap blank next
