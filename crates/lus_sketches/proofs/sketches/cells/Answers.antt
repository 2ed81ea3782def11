-- What a window gives.
use Rattle.std.proofs.Common.{◌∙◌, None, Some, subst, sym}
use Rattle.lus_program.specs.View.{program_seen}
use Rattle.lus_sketches.specs.Sketches.{GivesCells}
use Rattle.lus_sketches.proofs.Views.{lost_cells, picked_cells}
use Rattle.lus_sketches.proofs.sketches.cells.Goals as goal

pub returns-then-is_lost : goal.returns-then-is_lost
returns-then-is_lost c =
    let p = program_seen c.args.program.now in
    let q = c.args.request.now in
    let r = c.args.reply.now in
    let v = c.in-Some.view in
    let w = c.follow.new.self in
    subst (λ o. GivesCells p q r o (Some (record { picks = v.picks; window = w })) None) (sym c.in-Some.is) (lost_cells p q r v w c.in_ok-follow.ensures.followed (sym c.is_lost.ensures ∙ c.if-is_lost.true))

pub returns-else-is_lost : goal.returns-else-is_lost
returns-else-is_lost c =
    let p = program_seen c.args.program.now in
    let q = c.args.request.now in
    let r = c.args.reply.now in
    let v = c.in-Some.view in
    let w = c.follow.new.self in
    let after = c.follow.new.picked.items in
    subst (λ o. GivesCells p q r o (Some (record { picks = v.picks; window = w })) (Some after)) (sym c.in-Some.is)
    (picked_cells p q r v w c.in_ok-follow.ensures.followed c.deref.result.now c.deref.ensures.value c.new-rows.result.items after c.new-rows.ensures.items
    c.in_ok-follow.ensures.picked (sym c.is_lost.ensures ∙ c.if-is_lost.false))
