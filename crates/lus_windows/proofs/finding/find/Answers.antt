-- One row more, or a fault at it.
use Rattle.std.proofs.Common.{◌≡◌, ◌≤◌, suc, ◌+◌, length, map, sym, subst, take, arith}
use Rattle.std.proofs.lemmas.List.{take_all}
use Rattle.lus_program.specs.View.{program_seen}
use Rattle.lus_worlds.specs.Finding.{IsReady}
use Rattle.lus_worlds.specs.declared.world.Stop.TheVariants as stops
use Rattle.lus_worlds.specs.Worlds.{AreNoFurther, HasNoFurther, IsFaulty, IsFurther, IsStopped}
use Rattle.lus_windows.specs.Finding.{HasFault, ReachesBehind}
use Rattle.lus_windows.proofs.Rows.{reaches_next, faults_there, none_at, none_behind}
use Rattle.lus_windows.proofs.finding.find.Goals as goal

pub loop-place-preserved : goal.loop-place-preserved
loop-place-preserved c =
    let p = program_seen c.args.program.now in
    let f = c.args.node in
    let rows = c.args.rows.now in
    let i = c.loop-place.place in
    let x = c.index-rows-place.result in
    let old = c.args.old.now in
    let m = c.loop-place.reached in
    let next : i + 1 ≡ suc i = omega arith in
    let orders = map (λ order. order.items) c.args.orders.now in
    let further : IsReady p orders f → IsFurther p f x m c.in-Ok.next = subst (λ r. IsReady p orders f → IsFurther p f r m c.in-Ok.next) c.items.ensures c.in-Ok.ensures.ok in
    λ ready.
    subst (λ j. ReachesBehind p f (take j rows) old c.in-Ok.next) (sym next) (reaches_next p f rows i x c.loop-place-test.true c.index-rows-place.is old m (c.loop-place.invariant ready) c.in-Ok.next (further ready))

pub returns-in-Err-Fault : goal.returns-in-Err-Fault
returns-in-Err-Fault c =
    let p = program_seen c.args.program.now in
    let f = c.args.node in
    let rows = c.args.rows.now in
    let i = c.loop-place.place in
    let x = c.index-rows-place.result in
    let old = c.args.old.now in
    let m = c.loop-place.reached in
    let t = c.in-Err-Fault.fault in
    let orders = map (λ order. order.items) c.args.orders.now in
    let there = subst (λ r. IsReady p orders f → IsStopped p f r m c.in-Err-Fault.field-0) c.items.ensures c.in-Err-Fault.ensures.stopped in
    let stopped : IsReady p orders f → IsFaulty p f x m t = subst (λ s. IsReady p orders f → IsStopped p f x m s) c.in-Err-Fault.field-0-is there in
    let found : IsReady p orders f → HasFault p f rows old t i = λ ready. faults_there p f rows i x c.loop-place-test.true c.index-rows-place.is old m (c.loop-place.invariant ready) t (stopped ready) in
    rw c.in-Err-Fault.field-0-is found

pub returns-in-Err-Presence : goal.returns-in-Err-Presence
returns-in-Err-Presence c =
    let p = program_seen c.args.program.now in
    let f = c.args.node in
    let rows = c.args.rows.now in
    let i = c.loop-place.place in
    let x = c.index-rows-place.result in
    let old = c.args.old.now in
    let m = c.loop-place.reached in
    let orders = map (λ order. order.items) c.args.orders.now in
    let there = subst (λ r. IsReady p orders f → IsStopped p f r m c.in-Err-Presence.field-0) c.items.ensures c.in-Err-Presence.ensures.stopped in
    let stopped : IsReady p orders f → IsStopped p f x m stops.Presence = subst (λ s. IsReady p orders f → IsStopped p f x m s) c.in-Err-Presence.field-0-is there in
    let none = subst (λ r. IsReady p orders f → HasNoFurther p f r m c.in-Err-Presence.field-0) c.items.ensures c.in-Err-Presence.ensures.none in
    let over : IsReady p orders f → AreNoFurther p f x m = subst (λ s. IsReady p orders f → HasNoFurther p f x m s) c.in-Err-Presence.field-0-is none in
    λ ready. none_at p f rows i x c.loop-place-test.true c.index-rows-place.is old m (c.loop-place.invariant ready) ready.0.resolved (stopped ready) (over ready)

pub returns : goal.returns
returns c =
    let p = program_seen c.args.program.now in
    let f = c.args.node in
    let rows = c.args.rows.now in
    let i = c.loop-place.place in
    let old = c.args.old.now in
    let m = c.loop-place.reached in
    let whole : take i rows ≡ rows = take_all i rows (let le : length rows ≤ i = omega (arith, c.loop-place-test.false) in le) in
    λ ready. none_behind p f rows old m (subst (λ rs. ReachesBehind p f rs old m) whole (c.loop-place.invariant ready))
