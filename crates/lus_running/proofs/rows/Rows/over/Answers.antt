use Rattle.std.proofs.Common.{◌≡◌, ◌∙◌, None, Some, sym, ap, map, length, refl, arith}
use Rattle.std.proofs.lemmas.List.{length-map, with_items_is}
use Rattle.lus_values.specs.Values.{nil}
use Rattle.lus_instructions.specs.Followed.{cell_of}
use Rattle.lus_running.proofs.Cells.{filled_long}
use Rattle.lus_running.proofs.rows.Rows.over.Goals as goal

pub copy_cells-requires : goal.copy_cells-requires
copy_cells-requires g c =
    let o = c.args.self.now in
    let cells = filled_long g.U.Held.entry c.in_ok-cells.cells.items c.len.result (Some nil) c.in_ok-cells.ensures in
    ap length c.deref.ensures.value ∙ sym (cells ∙ c.len.ensures ∙ o.cells.ok.0) ∙ sym (ap length c.deref_mut.ensures.value)

pub returns : goal.returns
returns g c =
    let o = c.args.self.now in
    let held = cell_of g.T.Held.entry in
    let over = cell_of g.U.Held.entry in
    let cells = c.in_ok-cells.cells in
    let long : length c.copy_cells.new.copies ≡ cells.len = omega arith in
    λ n. record {
      same = record {
        node = refl;
        cells = ap (map over) (with_items_is cells c.copy_cells.new.copies long) ∙ c.in_ok-copy_cells.ensures ∙ ap (map held) c.deref.ensures.value;
        row = filled_long g.U.Held.entry c.in_ok-row.row.items c.len-3.result None c.in_ok-row.ensures ∙ c.len-3.ensures ∙ o.row.ok.0;
      };
      next_cells =
          length-map c.in_ok-next.next.items over ∙ filled_long g.U.Held.entry c.in_ok-next.next.items c.len-2.result (Some nil) c.in_ok-next.ensures
          ∙ c.len-2.ensures ∙ o.next.ok.0 ∙ sym (length-map o.next.items held);
    }
