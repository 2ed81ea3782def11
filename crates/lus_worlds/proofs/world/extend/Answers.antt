-- An instant that was found is a further one or a fault in it stops the world; and where none is found there is none.
use Rattle.std.proofs.Common.{◌≡◌, ◌∙◌, None, Some, map, sym, true≢false}
use Rattle.std.proofs.lemmas.Result.{IfErr-weaker, IfOk-weaker}
use Rattle.lus_values.specs.View.{entry_of}
use Rattle.lus_program.specs.View.{program_seen}
use Rattle.lus_worlds.specs.declared.world.Stop.TheVariants as stops
use Rattle.lus_worlds.specs.Finding.{IsReady}
use Rattle.lus_worlds.specs.Moments.{fault_in}
use Rattle.lus_worlds.specs.Worlds.{Ends, HasNoFurther, IsFurther, IsStopped}
use Rattle.lus_worlds.proofs.Worlds.{ends, is_further, is_stopped, none_there, FindsAny}
use Rattle.lus_worlds.proofs.world.extend.Goals as goal

pub returns-in-Ok-Some-clause-ok : goal.returns-in-Ok-Some-clause-ok
returns-in-Ok-Some-clause-ok c =
    let p = program_seen c.args.program.now in
    let orders = map (λ order. order.items) c.args.orders.now in
    let f = c.args.node in
    let given = map entry_of c.args.inputs.now in
    let old = c.args.old.now in
    let m = c.in-Ok-Some.moment in
    let finds : FindsAny p orders f given old (Some m) = rw c.in-Ok-Some.field-0-is at c.in-Ok-Some.ensures in
    IfOk-weaker c.sound.result (λ k. (k ≡ m) × (fault_in m ≡ None)) (λ k. IsReady p orders f → IsFurther p f given old k)
    (λ k h ready. rw h.0 (is_further p orders f given old ready ((c.in-Ok-true.ensures ready.1).0 c.in-Ok-true.field-0-test) m finds h.1)) c.sound.ensures.ok

pub returns-in-Ok-Some-clause-stopped : goal.returns-in-Ok-Some-clause-stopped
returns-in-Ok-Some-clause-stopped c =
    let p = program_seen c.args.program.now in
    let orders = map (λ order. order.items) c.args.orders.now in
    let f = c.args.node in
    let given = map entry_of c.args.inputs.now in
    let old = c.args.old.now in
    let m = c.in-Ok-Some.moment in
    let finds : FindsAny p orders f given old (Some m) = rw c.in-Ok-Some.field-0-is at c.in-Ok-Some.ensures in
    IfErr-weaker c.sound.result (Ends m) (λ s. IsReady p orders f → IsStopped p f given old s)
    (λ s h ready. is_stopped p orders f given old ready ((c.in-Ok-true.ensures ready.1).0 c.in-Ok-true.field-0-test) m finds s h) c.sound.ensures.fault

pub returns-in-Ok-Some-clause-none : goal.returns-in-Ok-Some-clause-none
returns-in-Ok-Some-clause-none c =
    let p = program_seen c.args.program.now in
    let orders = map (λ order. order.items) c.args.orders.now in
    let f = c.args.node in
    let given = map entry_of c.args.inputs.now in
    let old = c.args.old.now in
    IfErr-weaker c.sound.result (λ s. IsReady p orders f → IsStopped p f given old s) (λ s. IsReady p orders f → HasNoFurther p f given old s) (λ s h ready. ends p orders f given old ready s (h ready))
    (returns-in-Ok-Some-clause-stopped c)

pub returns-in-Ok-None-clause-stopped : goal.returns-in-Ok-None-clause-stopped
returns-in-Ok-None-clause-stopped c =
    let p = program_seen c.args.program.now in
    let orders = map (λ order. order.items) c.args.orders.now in
    let f = c.args.node in
    let given = map entry_of c.args.inputs.now in
    let old = c.args.old.now in
    let finds : FindsAny p orders f given old None = rw c.in-Ok-None.field-0-is at c.in-Ok-None.ensures in
    λ ready past keeps are. none_there p orders f given old ready are finds past keeps

pub returns-in-Ok-None-clause-none : goal.returns-in-Ok-None-clause-none
returns-in-Ok-None-clause-none c =
    let p = program_seen c.args.program.now in
    let orders = map (λ order. order.items) c.args.orders.now in
    λ ready. ends p orders c.args.node (map entry_of c.args.inputs.now) c.args.old.now ready stops.Presence (returns-in-Ok-None-clause-stopped c ready)

pub returns-in-Ok-false-clause-none : goal.returns-in-Ok-false-clause-none
returns-in-Ok-false-clause-none c =
    let p = program_seen c.args.program.now in
    let orders = map (λ order. order.items) c.args.orders.now in
    let f = c.args.node in
    let given = map entry_of c.args.inputs.now in
    let old = c.args.old.now in
    λ ready.
    ends p orders f given old ready stops.Presence (λ past keeps are. true≢false (sym ((c.in-Ok-false.ensures ready.1).1 are) ∙ c.in-Ok-false.field-0-test))
