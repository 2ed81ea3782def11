-- The columns of the entry are given, so far as they are in the part.
use Rattle.std.proofs.Common.{◌≡◌, ◌∙◌, ◌++◌, ◌+◌, ap, arith, length, map, refl}
use Rattle.lus_diagrams.specs.Columns.{event_between, event_of, instants, lineage_behind, marked, noted}
use Rattle.lus_diagrams.specs.ColumnView.{column_seen}
use Rattle.lus_diagrams.specs.Parts.{part_behind}
use Rattle.lus_diagrams.specs.declared.lineage.Lineage.{Lineage}
use Rattle.lus_diagrams.proofs.Going.{goes_on}
use Rattle.lus_diagrams.proofs.table.Table.note.Goals as goal

pub returns-clause-noted : goal.returns-clause-noted
returns-clause-noted c columns es old =
    let t = c.args.self.now in
    let e = noted c.args.request.now c.args.reply.now c.args.rows.items in
    let further : c.len-further.result ≡ length c.args.rows.items = omega (arith, c.args.rows.ok.0, c.args.rows.ok.1, c.len-further.ensures) in
    let event : c.event_of-event.result ≡ event_of e =
    c.event_of-event.ensures ∙ ap (λ n. event_between n c.args.request.now c.args.reply.now) further in
    let l : Lineage = record { count = c.in_ok-self-2.field-0; saved = t.lineage.saved } in
    goes_on columns t _ es e c.push_instants.new.columns.items c.in_ok-self-2.field-0
    (c.in_ok-push_instants.ensures
    ∙ ap (λ ds. ds ++ part_behind t.part t.instants (instants t.lineage.count e.rows))
    (c.in_ok-push_event.ensures
    ∙ ap (λ ds. map column_seen ds ++ part_behind t.part t.instants (marked c.event_of-event.result)) c.new-columns.ensures.items
    ∙ ap (λ o. part_behind t.part t.instants (marked o)) event))
    refl
    (c.in_ok-self.ensures ∙ ap (λ n. t.instants + n) further)
    (c.in_ok-self-2.ensures ∙ ap (λ n. t.lineage.count + n) further)
    (c.lineage_behind-self.ensures ∙ ap (lineage_behind l) event) old
