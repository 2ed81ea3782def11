-- Where the clock is present, and where it isn't.
use Rattle.std.proofs.Common.{◌≡◌, ◌∙◌, ℕ, sym, ap, map}
use Rattle.std.proofs.lemmas.Result.{IfOk-weaker}
use Rattle.lus_values.specs.View.{entry_of}
use Rattle.lus_program.specs.View.{node_of, program_seen}
use Rattle.lus_streams.specs.Equations.{definition_of}
use Rattle.lus_streams.specs.Streams.{where_on, definition_value}
use Rattle.lus_reference.specs.Given.{IsDefinedAt}
use Rattle.lus_reference.specs.Placed.{place_of}
use Rattle.lus_worlds.specs.Following.{IsMeant}
use Rattle.lus_worlds.proofs.following.meant.Goals as goal

pub returns-then-on : goal.returns-then-on
returns-then-on c =
    let p = program_seen c.args.program.now in
    let row = map entry_of c.args.row.now in
    let f = node_of c.args.node.now in
    let kept = map entry_of c.args.kept.now in
    let rows = c.args.rows.now in
    IfOk-weaker c.define.result (λ v. (x : ℕ) → c.args.place ≡ place_of c.args.node.now x → IsDefinedAt p row f x kept rows (entry_of v))
    (λ v. (x : ℕ) → c.args.place ≡ place_of c.args.node.now x → IsMeant p row f x c.args.on kept rows (entry_of v))
    (λ v h x is now past e r k. h x is now past e r k ∙ ap (λ b. where_on b (definition_value p (definition_of f x) now past)) (sym c.if-on.true))
    c.define.ensures

pub returns-else-on : goal.returns-else-on
returns-else-on c =
    let p = program_seen c.args.program.now in
    let f = node_of c.args.node.now in
    λ x is now past e r k. ap (λ b. where_on b (definition_value p (definition_of f x) now past)) (sym c.if-on.false)
