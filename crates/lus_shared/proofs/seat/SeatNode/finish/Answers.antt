use Rattle.std.proofs.Common.{ap}
use Rattle.lus_shared.specs.Knowledge.{Instance}
use Rattle.lus_shared.proofs.Closes.{finished, finished_none}
use Rattle.lus_shared.proofs.Steps.{Sat}
use Rattle.lus_shared.proofs.seat.SeatNode.finish.Goals as goal

pub returns-in-Some : goal.returns-in-Some
returns-in-Some c =
    finished _ c.args.self _ _ c.take-machine.result _ _ c.args.seats.items (ap (λ (i : Instance). i.origin) c.self.view_is) c.close_with-closed.ensures.values.2 (ap (λ (m : Sat). m.0) c.in-Some.ensures.1) c.requires.all c.take-machine.ensures.value

pub returns-in-None : goal.returns-in-None
returns-in-None c =
    finished_none _ c.args.self _ _ c.take-machine-in-None.result c.args.seats.items (ap (λ (i : Instance). i.origin) c.self.view_is) c.in-None.ensures c.close-closed.ensures.values.2 c.requires.all c.take-machine-in-None.ensures.value
