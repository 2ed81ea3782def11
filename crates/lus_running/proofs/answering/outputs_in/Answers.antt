use Rattle.std.proofs.Common.{◌≡◌, ◌∙◌, ◌<◌, ◌≤◌, sym, ap, map, length, take, drop, ◌++◌, ◌∷◌, [], add-one, arith}
use Rattle.std.proofs.lemmas.List.{length-map, map-append}
use Rattle.lus_values.specs.View.{entry_of}
use Rattle.lus_running.proofs.TakenOut.{one_more, one_taken, nothing_taken, taken_between}
use Rattle.lus_running.proofs.answering.outputs_in.Goals as goal

pub loop-variable-init : goal.loop-variable-init
loop-variable-init g c = ap (map entry_of) c.in_ok-found.ensures.items ∙ sym (nothing_taken c.args.from (map g.T.Held.entry c.args.row.now))

pub loop-variable-preserved : goal.loop-variable-preserved
loop-variable-preserved g c =
    let n = c.loop-variable.variable in
    let from = c.args.from in
    let r = map g.T.Held.entry c.args.row.now in
    let e = c.in_ok-entry-2.entry in
    let lt : n < length r = rw (length-map c.args.row.now g.T.Held.entry) (omega arith) in
    let le : from ≤ n = c.loop-variable.auto.variable in
    rw add-one
    (ap (map entry_of) c.in_ok-push.ensures.items
    ∙ map-append entry_of c.loop-variable.found.items (e ∷ [])
    ∙ ap (λ l. l ++ entry_of e ∷ []) c.loop-variable.invariant
    ∙ ap (λ v. drop from (take n r) ++ v ∷ []) c.in_ok-entry-2.ensures
    ∙ one_more from n r le lt)

pub returns : goal.returns
returns g c =
    let r = map g.T.Held.entry c.args.row.now in
    c.new.ensures ∙ c.loop-variable.invariant ∙ taken_between c.args.from c.args.outputs c.loop-variable.variable r (omega arith)

pub returns-then-outputs-eq1 : goal.returns-then-outputs-eq1
returns-then-outputs-eq1 g c =
    let from = c.args.from in
    let r = map g.T.Held.entry c.args.row.now in
    let one : c.args.outputs ≡ 1 = c.if-outputs-eq1.true in
    let lt : from < length r = rw (length-map c.args.row.now g.T.Held.entry) (omega arith) in
    c.one.ensures ∙ ap (λ v. v ∷ []) c.in_ok-entry.ensures ∙ sym (one_taken from r lt) ∙ ap (λ n. take n (drop from r)) (sym one)
