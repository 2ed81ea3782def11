use Rattle.lus_shared.specs.Views.{IsLater}
use Rattle.lus_shared.proofs.seat.SeatNode.call.Given as goal

abbrev pub invariant-loop : goal.invariant-loop
invariant-loop g l = IsLater l.initial.seat l.seat
