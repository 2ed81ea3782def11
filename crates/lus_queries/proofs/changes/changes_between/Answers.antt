-- A part is kept or changed, and so is what is left.
use Rattle.std.proofs.Common.{rules, ◌≡◌, ◌∙◌, ◌+◌, ◌*◌, ◌<◌, ◌^◌, ap, refl, sym, subst, length, List, [], ◌∷◌, ◌++◌, arith, Vec, Global}
use Rattle.lus_queries.specs.declared.changes.Change.{Change}
use Rattle.lus_queries.specs.Changes.{Make}
use Rattle.lus_queries.specs.Spots.{spot_after}
use Rattle.lus_queries.proofs.ChangeLaws.{IsMade, character_room, line_room, make_all, made_changed, made_kept, made_nothing, made_rest}
use Rattle.lus_queries.proofs.changes.changes_between.Goals.{then-not-are_same+in_ok-push, else-not-are_same}
use Rattle.lus_queries.proofs.changes.changes_between.Goals as goal

pub loop-part-init : goal.loop-part-init
loop-part-init c = (
  c.utf8.old,
  c.utf8.new,
  subst (λ (cs : List Change). IsMade c.args.old.now c.args.new.now cs 0 (record { line = 0; character = 0 }) c.args.old.now c.args.new.now)
      (sym c.new-changes.ensures.items) (made_nothing c.args.old.now c.args.new.now),
)

pub spot_after-to-requires-clause-line : goal.spot_after-to-requires-clause-line
spot_after-to-requires-clause-line c =
    let small : length c.args.old.now < 2 ^ 63 = search rules in
    omega (arith, ap length c.as_bytes.ensures.value, line_room _ _ _ _ _ _ _ c.loop-part.invariant.2, small)

pub spot_after-to-requires-clause-character : goal.spot_after-to-requires-clause-character
spot_after-to-requires-clause-character c =
    let small : length c.args.old.now < 2 ^ 63 = search rules in
    omega (arith, ap length c.as_bytes.ensures.value, character_room _ _ _ _ _ _ _ c.loop-part.invariant.2, small)

pub loop-part-preserved : goal.loop-part-preserved
loop-part-preserved c =
    let rest = c.loop-part.rest.now in
    let spot = c.spot_after-to.ensures ∙ ap (λ t. spot_after c.loop-part.from (length c.first_part.result.0.now) t) c.as_bytes.ensures.value in
    let P : List Change → Type 0 = λ cs. IsMade c.args.old.now c.args.new.now cs (c.loop-part.byte + length c.first_part.result.0.now) c.spot_after-to.result
    c.first_part.result.1.now c.first_part-in-loop-part.result.1.now in
    elim c.if-not-are_same.branch [
      | then-not-are_same+in_ok-push w ↦ (
        search rules,
        search rules,
        subst P (sym (ap (λ (v : Vec Change Global). v.items) w.changes-is ∙ w.in_ok-push.ensures.items))
            (made_changed c.args.old.now c.args.new.now c.loop-part.changes.items
            (record { byte = c.loop-part.byte; length = length c.first_part.result.0.now; from = c.loop-part.from; to = c.spot_after-to.result; text = c.first_part-in-loop-part.result.0 })
            rest c.loop-part.made.now c.first_part.result.0.now c.first_part.result.1.now c.first_part-in-loop-part.result.1.now c.loop-part.invariant.2
            c.first_part.ensures.parts c.first_part-in-loop-part.ensures.parts refl spot),
      )
      | else-not-are_same w ↦ (
        search rules,
        search rules,
        subst P (sym (ap (λ (v : Vec Change Global). v.items) w.changes-is))
            (made_kept c.args.old.now c.args.new.now c.loop-part.changes.items c.loop-part.byte (length c.first_part.result.0.now) c.loop-part.from c.spot_after-to.result
            rest c.loop-part.made.now c.first_part.result.0.now c.first_part.result.1.now c.first_part-in-loop-part.result.0.now c.first_part-in-loop-part.result.1.now
            c.loop-part.invariant.2 c.first_part.ensures.parts c.first_part-in-loop-part.ensures.parts (w.if-not-are_same.ensures {u = tt} refl) refl spot),
      )
    ]

pub spot_after-to-requires-2-clause-line : goal.spot_after-to-requires-2-clause-line
spot_after-to-requires-2-clause-line c =
    let small : length c.args.old.now < 2 ^ 63 = search rules in
    omega (arith, ap length c.as_bytes-2.ensures.value, line_room _ _ _ _ _ _ _ c.loop-part.invariant.2, small)

pub spot_after-to-requires-2-clause-character : goal.spot_after-to-requires-2-clause-character
spot_after-to-requires-2-clause-character c =
    let small : length c.args.old.now < 2 ^ 63 = search rules in
    omega (arith, ap length c.as_bytes-2.ensures.value, character_room _ _ _ _ _ _ _ c.loop-part.invariant.2, small)

pub returns-then-are_same : goal.returns-then-are_same
returns-then-are_same c = make_all _ _ _ _ _ _ _ c.loop-part.invariant.2 (c.if-are_same.ensures {u = tt} refl)

pub returns : goal.returns
returns c =
    let rest = c.loop-part.rest.now in
    let spot = c.spot_after-to-2.ensures ∙ ap (λ t. spot_after c.loop-part.from (length rest) t) c.as_bytes-2.ensures.value in
    subst (λ (cs : List Change). Make cs c.args.old.now c.args.new.now) (sym c.in_ok-push-2.ensures.items)
    (make_all _ _ _ _ _ _ _
    (made_rest c.args.old.now c.args.new.now c.loop-part.changes.items
    (record { byte = c.loop-part.byte; length = length rest; from = c.loop-part.from; to = c.spot_after-to-2.result; text = c.loop-part.made })
    rest c.loop-part.made.now c.loop-part.invariant.2 refl refl spot) refl)
