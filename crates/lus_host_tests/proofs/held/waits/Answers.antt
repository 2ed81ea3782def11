-- A seat and a node may be used by another thread.
use denote.Param.Send.{sendable}
use Rattle.std.proofs.Crossing.{crosses}
use Rattle.lus_callers.proofs.SharedProofs.Sent.{node_sync, seat_send}
use Rattle.lus_host_tests.proofs.held.waits.Goals as goal

pub join-answered-requires-send-F : goal.join-answered-requires-send-F
join-answered-requires-send-F g c κs within = search (crosses, node_sync, seat_send, sendable) depth 20
