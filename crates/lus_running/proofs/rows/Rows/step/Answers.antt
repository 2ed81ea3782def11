use Rattle.std.proofs.Common.{◌≡◌, ◌∙◌, ℕ, List, sym, ap, subst, map, length, refl, Option, Some, Ok, arith}
use Rattle.std.proofs.lemmas.List.{length-map, with_items_is}
use Rattle.std.specs.Vec.{with_items}
use Rattle.lus_instructions.specs.Followed.{cell_of}
use Rattle.lus_values.specs.Values.{Value, Row}
use Rattle.lus_values.specs.View.{entry_of}
use Rattle.lus_running.specs.Answering.{AnswersTo, left_by}
use Rattle.lus_running.specs.Instances.{MakesStep, rows_seen}
use Rattle.lus_running.specs.declared.rows.Rows.{Rows}
use Rattle.lus_running.proofs.TakenRows.{faulted, made, stopped}
use Rattle.lus_running.proofs.rows.Rows.step.Goals as goal

pub answer-answer-requires : goal.answer-answer-requires
answer-answer-requires g c =
    let o = c.args.self.now in
    let held = cell_of g.T.Held.entry in
    let can = c.requires in
    let long = can.long in
    let count : length c.items.result.now ≡ length c.args.inputs.now = sym (length-map c.items.result.now entry_of) ∙ ap length c.items.ensures in
    record {
      follow = can.follow;
      long = record {
        cells = ap length c.deref.ensures.value ∙ sym (length-map o.cells.items held) ∙ long.cells;
        next_cells = ap length c.deref_mut.ensures.value ∙ sym (length-map o.next.items held) ∙ long.next_cells;
        row = ap length c.deref_mut-2.ensures.value ∙ long.row;
      };
      outputs = (let outputs = can.outputs in omega (arith, outputs, count));
    }

pub returns-in-Ok-Some : goal.returns-in-Ok-Some
returns-in-Ok-Some g c =
    let entry = g.T.Held.entry in
    let held = cell_of entry in
    let o = c.args.self.now in
    let s = c.args.on.now in
    let i = c.args.inputs.now in
    let count = c.args.outputs in
    let us = c.answer-answer.new.next in
    let rs = c.answer-answer.new.row in
    let next_long : length us ≡ o.next.len = c.answer-answer.auto.next ∙ ap length c.deref_mut.ensures.value ∙ sym o.next.ok.0 in
    let row_long : length rs ≡ o.row.len = c.answer-answer.auto.row ∙ ap length c.deref_mut-2.ensures.value ∙ sym o.row.ok.0 in
    let next = with_items_is o.next us next_long in
    let row = with_items_is o.row rs row_long in
    let mid : Rows _ = record { cells = o.cells; next = with_items o.next us; row = with_items o.row rs } in
    let long : length c.items.result.now ≡ length i = sym (length-map c.items.result.now entry_of) ∙ ap length c.items.ensures in
    let kept : map held c.deref.result.now ≡ map held o.cells.items = ap (map held) c.deref.ensures.value in
    let answers = subst (λ (z : List Value × Row × ℕ × List Value × Option Row). AnswersTo (left_by s z.0 z.1) z.2 count (Ok z.4) z.3)
    (λ j. (kept j, c.items.ensures j, long j, map held (sym next j), c.in-Ok-Some.field-0-is j)) c.in-Ok-Some.ensures in
    subst (λ (r : Rows _). MakesStep s i count (rows_seen entry 0 o) (Ok (Some c.in-Ok-Some.found)) (rows_seen entry 0 r)) (sym c.exchange.ensures)
    (made entry s i count o mid c.requires.long refl (ap length next ∙ next_long ∙ o.next.ok.0) (ap length row ∙ row_long ∙ o.row.ok.0) c.in-Ok-Some.found answers)

pub returns-in-Ok-None : goal.returns-in-Ok-None
returns-in-Ok-None g c =
    let entry = g.T.Held.entry in
    let held = cell_of entry in
    let o = c.args.self.now in
    let s = c.args.on.now in
    let i = c.args.inputs.now in
    let count = c.args.outputs in
    let us = c.answer-answer.new.next in
    let rs = c.answer-answer.new.row in
    let next_long : length us ≡ o.next.len = c.answer-answer.auto.next ∙ ap length c.deref_mut.ensures.value ∙ sym o.next.ok.0 in
    let row_long : length rs ≡ o.row.len = c.answer-answer.auto.row ∙ ap length c.deref_mut-2.ensures.value ∙ sym o.row.ok.0 in
    let next = with_items_is o.next us next_long in
    let row = with_items_is o.row rs row_long in
    let mid : Rows _ = record { cells = o.cells; next = with_items o.next us; row = with_items o.row rs } in
    let long : length c.items.result.now ≡ length i = sym (length-map c.items.result.now entry_of) ∙ ap length c.items.ensures in
    let kept : map held c.deref.result.now ≡ map held o.cells.items = ap (map held) c.deref.ensures.value in
    let answers = subst (λ (z : List Value × Row × ℕ × List Value × Option Row). AnswersTo (left_by s z.0 z.1) z.2 count (Ok z.4) z.3)
    (λ j. (kept j, c.items.ensures j, long j, map held (sym next j), c.in-Ok-None.field-0-is j)) c.in-Ok-None.ensures in
    faulted entry s i count o mid c.requires.long refl (ap length next ∙ next_long ∙ o.next.ok.0) (ap length row ∙ row_long ∙ o.row.ok.0) answers

pub returns-in-Err : goal.returns-in-Err
returns-in-Err g c =
    let entry = g.T.Held.entry in
    let held = cell_of entry in
    let o = c.args.self.now in
    let s = c.args.on.now in
    let i = c.args.inputs.now in
    let count = c.args.outputs in
    let us = c.answer-answer.new.next in
    let rs = c.answer-answer.new.row in
    let next_long : length us ≡ o.next.len = c.answer-answer.auto.next ∙ ap length c.deref_mut.ensures.value ∙ sym o.next.ok.0 in
    let row_long : length rs ≡ o.row.len = c.answer-answer.auto.row ∙ ap length c.deref_mut-2.ensures.value ∙ sym o.row.ok.0 in
    let next = with_items_is o.next us next_long in
    let row = with_items_is o.row rs row_long in
    let mid : Rows _ = record { cells = o.cells; next = with_items o.next us; row = with_items o.row rs } in
    stopped entry s i count o mid c.requires.long refl (ap length next ∙ next_long ∙ o.next.ok.0) (ap length row ∙ row_long ∙ o.row.ok.0) c.in-Err.stop
