use Rattle.std.proofs.Common.{List, length, ap, arith}
use Rattle.lus_shared.specs.Knowledge.{Call}
use Rattle.lus_shared.specs.Told.{its_facts}
use Rattle.lus_shared.proofs.Lists.{kept_length}
use Rattle.lus_shared.proofs.seat.SeatNode.try_call.Goals as goal

pub overflow_add-seat : goal.overflow_add-seat
overflow_add-seat c =
    let t = c.in_ok-reply.ensures.told in
    let f = its_facts c.seat.inside.place.me in
    omega (arith, kept_length t.before f.number, ap (λ (l : List Call). length l) t.knows.own, t.short, c.seat.invariant.share_is)
