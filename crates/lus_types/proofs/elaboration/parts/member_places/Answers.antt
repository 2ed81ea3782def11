use Rattle.std.proofs.Common.{◌∙◌, add-one, arith, sym}
use Rattle.std.proofs.lemmas.Grind.{common_steps}
use Rattle.lus_source.specs.ScopeView.{scope_of}
use Rattle.lus_types.proofs.Meant.{all_found, members_one_by_one, none_found, one_found}
use Rattle.lus_types.proofs.elaboration.parts.member_places.Goals as goal

pub returns-in_default-clause-places : goal.returns-in_default-clause-places
returns-in_default-clause-places c =
    let each = members_one_by_one (scope_of c.args.scope.now) c.args.members c.args.kind in
    none_found _ _ each c.args.parts.now c.loop-part.part-index c.loop-part.places.items _ c.loop-part.invariant.so_far c.part-item.result c.part-item.is c.loop-part-test.true (sym c.member_place.ensures ∙ c.in_default.is)

pub loop-part-preserved : goal.loop-part-preserved
loop-part-preserved c =
    let n = c.loop-part.part-index in
    let each = members_one_by_one (scope_of c.args.scope.now) c.args.members c.args.kind in
    let more = one_found _ _ each c.args.parts.now n c.loop-part.places.items _ c.loop-part.invariant.so_far c.part-item.result c.part-item.is c.loop-part-test.true c.in-Some.place (sym c.in-Some.ensures) in
    record { so_far = rw (c.in_ok-push.ensures.items, add-one n) more; alike = grind (arith, common_steps) }

pub returns-clause-places : goal.returns-clause-places
returns-clause-places c =
    let each = members_one_by_one (scope_of c.args.scope.now) c.args.members c.args.kind in
    all_found _ _ each c.args.parts.now c.loop-part.part-index c.loop-part.places.items _ c.loop-part.invariant.so_far (omega arith)
