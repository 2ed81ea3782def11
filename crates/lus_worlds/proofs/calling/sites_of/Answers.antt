-- One part more, and all of them.
use Rattle.std.proofs.Common.{◌≡◌, ◌∙◌, suc, ◌+◌, ◌≤◌, [], ◌∷◌, ◌++◌, sym, ap, drop, drop-cons, drop_of_length-le, length, append_assoc, append-nil, arith}
use Rattle.lus_worlds.specs.Finding.{call_place, call_places}
use Rattle.lus_worlds.proofs.calling.sites_of.Goals as goal

pub loop-place-preserved : goal.loop-place-preserved
loop-place-preserved c =
    let qs = c.args.parts.now in
    let i = c.loop-place.place in
    let q = c.index-parts-place.result in
    let old = c.loop-place.sites.items in
    let next : i + 1 ≡ suc i = omega arith in
    let rest : drop i qs ≡ q ∷ drop (suc i) qs = drop-cons qs i q c.loop-place-test.true ∙ (λ j. sym c.index-parts-place.is j ∷ drop (suc i) qs) in
    (λ j. c.in_ok-push_site.ensures j ++ call_places (drop (next j) qs) (next j))
    ∙ append_assoc old (call_place q i) (call_places (drop (suc i) qs) (suc i))
    ∙ ap (λ l. old ++ call_places l i) (sym rest)
    ∙ c.loop-place.invariant

pub returns : goal.returns
returns c =
    let qs = c.args.parts.now in
    let i = c.loop-place.place in
    let old = c.loop-place.sites.items in
    let done : drop i qs ≡ [] = drop_of_length-le qs (let le : length qs ≤ i = omega arith in le) in
    sym (append-nil old) ∙ ap (λ l. old ++ call_places l i) (sym done) ∙ c.loop-place.invariant
