-- One variable more.
use Rattle.std.proofs.Common.{◌≡◌, ◌∙◌, ◌++◌, [], ◌∷◌, ap, map, sym, string_bytes}
use Rattle.lus_sketches.specs.Paths.{chosen_seen}
use Rattle.lus_sketches.proofs.Chosen.{all_more, map_last}
use Rattle.lus_sketches.proofs.choices.all.Goals as goal

pub loop-place-preserved : goal.loop-place-preserved
loop-place-preserved c =
    let i = c.loop-place.place in
    let v = c.index-variables-place.result in
    let own = c.in_ok-own.field-0 in
    let seen : chosen_seen own ≡ (string_bytes v.name, ([], i)) = c.in_ok-own.ensures ∙ (λ j. (c.as_str.ensures.value j, ([], c.in_ok-number_of.ensures j))) in
    ap (map chosen_seen) c.in_ok-push.ensures.items ∙ map_last chosen_seen c.loop-place.all.items own
    ∙ (λ j. c.loop-place.invariant j ++ seen j ∷ [])
    ∙ sym (all_more i c.args.variables.now v c.loop-place-test.true c.index-variables-place.is)
