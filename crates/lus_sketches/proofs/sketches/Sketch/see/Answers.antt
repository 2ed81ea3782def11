-- The table goes on with the cells of the entry.
use Rattle.std.proofs.Common.{◌∙◌, ◌++◌, ◌∷◌, [], map, option_map, refl, subst, sym}
use Rattle.std.proofs.lemmas.Result.{IfOk-weaker}
use Rattle.lus_program.specs.View.{program_seen}
use Rattle.lus_play.specs.Plays.{entry_of}
use Rattle.lus_diagrams.specs.ColumnView.{column_seen}
use Rattle.lus_sketches.specs.Sketches.{GivesCells, IsFailure}
use Rattle.lus_sketches.proofs.Sketched.{drawn_last, drawn_on, failed_on, failure_more, lost_now, sketched}
use Rattle.lus_sketches.proofs.sketches.Sketch.see.Goals as goal

pub returns-in-Some-clause-sketched : goal.returns-in-Some-clause-sketched
returns-in-Some-clause-sketched c =
    let p = program_seen c.args.program.now in
    let q = c.args.request.now in
    let r = c.args.reply.now in
    let old = c.args.self.now in
    let gives = subst (λ o. GivesCells p q r old.view c.cells.new.view (option_map (λ rows. rows.items) o)) c.in-Some.is c.in_ok-rows.ensures in
    IfOk-weaker c.note.result _ _
    (λ new on s f h columns. drawn_on (IsFailure s p f h) (IsFailure s p f (h ++ entry_of q r ∷ [])) old.failure (sym c.is_some.ensures ∙ c.if-is_some.false)
    (sketched s p f h q r old _ refl c.in-Some.rows.items gives (map column_seen new.items) on columns))
    c.note.ensures.noted

pub returns-in-None-clause-sketched : goal.returns-in-None-clause-sketched
returns-in-None-clause-sketched c =
    let p = program_seen c.args.program.now in
    let q = c.args.request.now in
    let r = c.args.reply.now in
    let old = c.args.self.now in
    let gives = subst (λ o. GivesCells p q r old.view c.cells.new.view (option_map (λ rows. rows.items) o)) c.in-None.is c.in_ok-rows.ensures in
    λ s f h columns is. drawn_last (IsFailure s p f h) old.failure (sym c.is_some.ensures ∙ c.if-is_some.false)
    (lost_now s p f h q r old c.cells.new.view 0 columns gives) is

pub returns-then-is_some-clause-sketched : goal.returns-then-is_some-clause-sketched
returns-then-is_some-clause-sketched c =
    let p = program_seen c.args.program.now in
    let e = entry_of c.args.request.now c.args.reply.now in
    let old = c.args.self.now in
    λ s f h columns. failed_on _ _ (IsFailure s p f h) (IsFailure s p f (h ++ e ∷ [])) old.failure (sym c.is_some.ensures ∙ c.if-is_some.true) (failure_more s p f h e)
