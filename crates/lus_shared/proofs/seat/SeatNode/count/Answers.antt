use Rattle.std.proofs.Common.{sym, ap, ◌∙◌, arith}
use Rattle.lus_shared.specs.Knowledge.{Instance, Standing}
use Rattle.lus_shared.proofs.Keeps.{looks}
use Rattle.lus_shared.proofs.seat.SeatNode.count.Goals as goal

pub load-requires : goal.load-requires
load-requires c =
    let table = ap (λ (s : Standing). s.instance.table) c.seat.view_is ∙ (ap (λ (i : Instance). i.table) c.requires ∙ sym (ap (λ (i : Instance). i.table) c.self.view_is)) in
    (table, omega (arith, c.self.invariant.0), looks _ _ _ _)
