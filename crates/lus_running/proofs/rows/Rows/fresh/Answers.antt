use Rattle.std.proofs.Common.{None}
use Rattle.lus_running.proofs.Cells.{both_long, filled_cells}
use Rattle.lus_running.proofs.rows.Rows.fresh.Goals as goal

pub returns : goal.returns
returns g c =
    let entry = g.T.Held.entry in
    let f = c.args.class.now in
    λ n. record {
      cells = filled_cells entry c.in_ok-cells.cells.items f.cells c.in_ok-cells.ensures;
      next_cells = filled_cells entry c.in_ok-next.next.items f.cells c.in_ok-next.ensures;
      row = both_long entry c.in_ok-row.row.items c.fill.new.row.items f.own f.behind None c.in_ok-row.ensures c.in_ok-fill.ensures;
    }
