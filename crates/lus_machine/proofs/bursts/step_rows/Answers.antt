-- Rows are stepped through one behind another, or the first that is refused ends it.
use Rattle.std.proofs.Common.{◌≡◌, ◌∙◌, ◌+◌, ap, sym, subst, [], ◌∷◌, ◌++◌, take, drop, Result, Ok, Err}
use Rattle.std.specs.Result.{IfErr, IsErrAnd}
use Rattle.std.proofs.lemmas.List.{take_more, drop_more, take-append-drop, take_all}
use Rattle.lus_machine.specs.Bursts.{AreRefused, GoesThrough}
use Rattle.lus_machine.proofs.RowSteps.{goes_nowhere, goes_on, refused_there}
use Rattle.lus_machine.proofs.bursts.step_rows.Goals as goal

err_passed : {X E : Type 0} (P : E → Type 0) (u : Result X E) (x : E) → IsErrAnd u (λ e. e ≡ x) → P x → IfErr u P
err_passed P (Ok v) x is h = tt
err_passed P (Err e) x is h = subst P (sym is) h

pub loop-row-init : goal.loop-row-init
loop-row-init c =
    subst (λ l. GoesThrough c.args.code.now c.args.object.now [] l c.args.object.now) (sym c.new-outputs.ensures.items)
    (goes_nowhere c.args.code.now c.args.object.now c.requires)

pub loop-row-preserved : goal.loop-row-preserved
loop-row-preserved c =
    let code = c.args.code.now in
    let o = c.args.object.now in
    let rows = c.args.rows.now in
    let k = c.loop-row.row-index in
    let row = c.row-item.result in
    let more : take (k + 1) rows ≡ take k rows ++ row ∷ [] = take_more rows k row c.loop-row-test.true ∙ ap (λ d. take k rows ++ d ∷ []) (sym c.row-item.is) in
    let goes = goes_on code o (take k rows) c.loop-row.outputs.items c.loop-row.object c.step_row.new.object row c.in_ok-given.given c.loop-row.invariant c.in_ok-given.ensures.ok in
    subst (λ l. GoesThrough code o l c.push.new.self.items c.step_row.new.object) (sym more)
    (subst (λ l. GoesThrough code o (take k rows ++ row ∷ []) l c.step_row.new.object) (sym c.in_ok-push.ensures.items) goes)

pub returns-in_err-given-clause-refused : goal.returns-in_err-given-clause-refused
returns-in_err-given-clause-refused c =
    let code = c.args.code.now in
    let o = c.args.object.now in
    let rows = c.args.rows.now in
    let k = c.loop-row.row-index in
    let row = c.row-item.result in
    let e = c.in_err-given.field-0.0 in
    let cut : rows ≡ take k rows ++ row ∷ drop (k + 1) rows =
    sym (take-append-drop k rows) ∙ ap (λ l. take k rows ++ l) (drop_more rows k row c.loop-row-test.true ∙ ap (λ d. d ∷ drop (k + 1) rows) (sym c.row-item.is)) in
    let refused = refused_there code o (take k rows) c.loop-row.outputs.items (drop (k + 1) rows) c.loop-row.object row e c.loop-row.invariant c.in_err-given.ensures.refused in
    err_passed (AreRefused code o rows) c.from_residual.result e c.from_residual.ensures.1 (subst (λ l. AreRefused code o l e) (sym cut) refused)

pub returns-clause-ok : goal.returns-clause-ok
returns-clause-ok c =
    let code = c.args.code.now in
    let o = c.args.object.now in
    let rows = c.args.rows.now in
    subst (λ l. GoesThrough code o rows l c.loop-row.object) (sym c.new.ensures)
    (subst (λ l. GoesThrough code o l c.loop-row.outputs.items c.loop-row.object) (take_all c.loop-row.row-index rows c.loop-row-test.false) c.loop-row.invariant)
