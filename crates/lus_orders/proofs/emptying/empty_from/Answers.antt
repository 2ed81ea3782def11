use Rattle.std.proofs.Common.{◌∙◌, ◌+◌, ◌-◌, None, ap, map, replicate, arith}
use Rattle.lus_orders.specs.Classes.{replaced}
use Rattle.lus_orders.proofs.Called.{mapped_replaced, part_long}
use Rattle.lus_orders.proofs.emptying.empty_from.Goals as goal

pub returns : goal.returns
returns g c =
    let entry = g.T.Held.entry in
    let x = c.args.from in
    let n = c.args.count in
    let row = c.args.row.now in
    mapped_replaced entry x n (x + n - x) c.empty.new.places row (omega arith)
    ∙ ap (λ l. replaced x n l (map entry row)) (c.empty.ensures ∙ ap (λ k. replicate k None) (part_long x n (x + n - x) row (omega arith) c.requires))
