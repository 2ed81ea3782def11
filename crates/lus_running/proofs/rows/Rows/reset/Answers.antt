use Rattle.std.proofs.Common.{◌≡◌, ◌∙◌, ap, map, length, refl, arith}
use Rattle.std.proofs.lemmas.List.{with_items_is}
use Rattle.lus_values.specs.Values.{nil}
use Rattle.lus_instructions.specs.Followed.{cell_of}
use Rattle.lus_running.proofs.rows.Rows.reset.Goals as goal

pub returns : goal.returns
returns g c =
    let o = c.args.self.now in
    let held = cell_of g.T.Held.entry in
    let long : length c.empty_all.new.cells ≡ o.cells.len = omega arith in
    λ n. record {
      node = refl;
      cells = ap (map held) (with_items_is o.cells c.empty_all.new.cells long) ∙ c.empty_all.ensures ∙ ap (λ l. map (λ v. nil) (map held l)) c.deref_mut.ensures.value;
      next_cells = refl;
      row = refl;
    }
