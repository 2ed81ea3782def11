use Rattle.lus_shared.proofs.Later.{later_self}
use Rattle.lus_shared.proofs.seat.SeatNode.call.Goals as goal

pub loop-init : goal.loop-init
loop-init g c = later_self _
