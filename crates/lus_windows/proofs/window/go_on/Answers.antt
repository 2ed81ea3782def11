-- One instant more, or none.
use Rattle.std.proofs.Common.{Some, None, map, refl}
use Rattle.lus_program.specs.View.{program_seen}
use Rattle.lus_windows.specs.declared.window.Reached.{Reached}
use Rattle.lus_windows.proofs.Following.{goes_found, goes_lost}
use Rattle.lus_windows.proofs.window.go_on.Goals as goal

pub returns-in_ok-push-in-Some : goal.returns-in_ok-push-in-Some
returns-in_ok-push-in-Some c =
    let p = program_seen c.args.program.now in
    let m = c.in-Some.moment in
    let orders = map (λ order. order.items) c.args.orders.now in
    let new : Reached = record { moment = Some m; instants = c.saturating_add-instants.result } in
    let further = rw c.in-Some.is at c.in_ok-moment.ensures in
    goes_found p c.args.node orders c.args.picks.now c.args.inputs.now c.args.reached.now new c.args.picked.now.items c.push.new.self.items m c.in_ok-row-in-Some.row refl further
    c.in_ok-row-in-Some.ensures c.in_ok-push-in-Some.ensures.items

pub returns-in-None : goal.returns-in-None
returns-in-None c =
    let p = program_seen c.args.program.now in
    let orders = map (λ order. order.items) c.args.orders.now in
    let new : Reached = record { moment = None; instants = c.saturating_add-instants.result } in
    let before = c.args.picked.now.items in
    goes_lost p c.args.node orders c.args.picks.now c.args.inputs.now c.args.reached.now new before before (rw c.in-None.is at c.in_ok-moment.ensures) refl refl
