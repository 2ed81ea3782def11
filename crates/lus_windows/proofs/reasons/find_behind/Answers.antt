-- What is found behind what is kept is found behind what was reached.
use Rattle.std.proofs.Common.{MatchOption, map, subst}
use Rattle.std.proofs.lemmas.Result.{IfOk-weaker}
use Rattle.lus_program.specs.View.{program_seen}
use Rattle.lus_worlds.specs.Finding.{IsReady}
use Rattle.lus_windows.specs.Finding.{HasFault, HasNone}
use Rattle.lus_windows.specs.Windows.{orders_in}
use Rattle.lus_windows.proofs.Following.{found_behind, none_behind_lost}
use Rattle.lus_windows.proofs.reasons.find_behind.Goals as goal

pub returns-in-Some : goal.returns-in-Some
returns-in-Some c =
    let p = program_seen c.args.program.now in
    let w = c.args.window.now in
    let f = w.node in
    let rows = c.args.rows.now in
    let m = c.in-Some.moment in
    IfOk-weaker c.find.result _ _
    (λ o found. found_behind (IsReady p (orders_in w) f) p f rows m w.reached c.in-Some.is o
    (subst (λ os. MatchOption o (IsReady p (map (λ order. order.items) os) f → HasNone p f rows m) (λ g. IsReady p (map (λ order. order.items) os) f → HasFault p f rows m g.fault g.row)) c.deref.ensures.value found))
    c.find.ensures

pub returns-in-None : goal.returns-in-None
returns-in-None c =
    let w = c.args.window.now in
    λ sure l ready k. none_behind_lost (program_seen c.args.program.now) w.node c.args.rows.now w.reached c.in-None.is sure l k
