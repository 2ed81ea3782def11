-- One row more.
use Rattle.std.proofs.Common.{◌≡◌, ◌∙◌, ◌+◌, ◌++◌, suc, [], ◌∷◌, map, take, sym, ap, subst, arith}
use Rattle.lus_program.specs.View.{program_seen}
use Rattle.lus_windows.specs.Picks.{GoesOn}
use Rattle.lus_windows.proofs.Rows.{taken_next}
use Rattle.lus_windows.proofs.Following.{goes_nowhere, goes_both}
use Rattle.lus_windows.proofs.window.go_through.Goals as goal

pub loop-inputs-init : goal.loop-inputs-init
loop-inputs-init c = goes_nowhere (program_seen c.args.program.now) c.args.node (map (λ order. order.items) c.args.orders.now) c.args.picks.now c.args.reached.now c.args.picked.now.items

pub loop-inputs-preserved : goal.loop-inputs-preserved
loop-inputs-preserved c =
    let p = program_seen c.args.program.now in
    let f = c.args.node in
    let orders = map (λ order. order.items) c.args.orders.now in
    let rows = c.args.rows.now in
    let picks = c.args.picks.now in
    let i = c.loop-inputs.inputs-index in
    let x = c.inputs-item.result in
    let old = c.args.reached.now in
    let new = c.go_on.new.reached in
    let before = c.args.picked.now.items in
    let after = c.go_on.new.picked.items in
    let one : suc i ≡ i + 1 = omega arith in
    let more : take i rows ++ x ∷ [] ≡ take (i + 1) rows = sym (taken_next i rows x c.loop-inputs-test.true c.inputs-item.is) ∙ ap (λ n. take n rows) one in
    subst (λ s. GoesOn p f orders s picks old new before after) more
    (goes_both p f orders picks (take i rows) (x ∷ []) old c.loop-inputs.reached new before c.loop-inputs.picked.items after c.loop-inputs.invariant c.in_ok-go_on.ensures)
