-- A further instant behind what was reached.
use Rattle.std.proofs.Common.{◌≡◌, MatchOption, Option, Some, None, map, refl, sym, subst}
use Rattle.lus_program.specs.View.{program_seen}
use Rattle.lus_worlds.specs.Finding.{IsReady}
use Rattle.lus_worlds.specs.Worlds.{HasNoFurther, IsFurther}
use Rattle.lus_windows.proofs.Following.{over_lost, over_stopped}
use Rattle.lus_windows.proofs.window.next.Goals as goal

pub returns-in-Ok : goal.returns-in-Ok
returns-in-Ok c =
    let p = program_seen c.args.program.now in
    let f = c.args.node in
    let x = c.args.inputs.now in
    let old = c.in-Some.old in
    let orders = map (λ order. order.items) c.args.orders.now in
    let further : IsReady p orders f → IsFurther p f x old c.in-Ok.next = subst (λ r. IsReady p orders f → IsFurther p f r old c.in-Ok.next) c.items.ensures c.in-Ok.ensures.ok in
    subst (λ o. MatchOption o ⊥ (λ k. IsReady p orders f → IsFurther p f x k c.in-Ok.next)) (sym c.in-Some.is) further

not_some : {X : Type 0} (o : Option X) → ((x : X) → o ≡ Some x → ⊥) → o ≡ None
not_some None none = refl
not_some (Some x) none = absurd (none x refl)

pub returns-in_default : goal.returns-in_default
returns-in_default c = over_lost (program_seen c.args.program.now) c.args.node (map (λ order. order.items) c.args.orders.now) c.args.inputs.now c.args.reached.now (not_some c.args.reached.now.moment c.in_default.not-Some)

pub returns-in-Err-Fault : goal.returns-in-Err-Fault
returns-in-Err-Fault c =
    let p = program_seen c.args.program.now in
    let f = c.args.node in
    let x = c.args.inputs.now in
    let orders = map (λ order. order.items) c.args.orders.now in
    let stop = c.in-Err-Fault.field-0 in
    let none : IsReady p orders f → HasNoFurther p f x c.in-Some.old stop = subst (λ r. IsReady p orders f → HasNoFurther p f r c.in-Some.old stop) c.items.ensures c.in-Err-Fault.ensures.none in
    over_stopped p f orders x c.args.reached.now c.in-Some.old stop c.in-Some.is (let is = c.in-Err-Fault.field-0-is in λ e. cc) none

pub returns : goal.returns
returns c =
    let p = program_seen c.args.program.now in
    let f = c.args.node in
    let x = c.args.inputs.now in
    let orders = map (λ order. order.items) c.args.orders.now in
    let stop = c.in-Err-Presence.field-0 in
    let none : IsReady p orders f → HasNoFurther p f x c.in-Some.old stop = subst (λ r. IsReady p orders f → HasNoFurther p f r c.in-Some.old stop) c.items.ensures c.in-Err-Presence.ensures.none in
    over_stopped p f orders x c.args.reached.now c.in-Some.old stop c.in-Some.is (let is = c.in-Err-Presence.field-0-is in λ e. cc) none
