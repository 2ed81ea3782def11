-- A seat may go to another thread, and a node may be seen by several.
use denote.Param.Send.{sendable}
use Rattle.std.proofs.Crossing.{crosses}
use Rattle.lus_host.proofs.SharedProofs.Sent.{node_sync, seat_send}
use Rattle.lus_embed.proofs.together.pass_together.Goals as goal

pub join-first-requires-send-F : goal.join-first-requires-send-F
join-first-requires-send-F g c κs within = search (crosses, node_sync, seat_send, sendable) depth 20

pub join-first-requires-send-A : goal.join-first-requires-send-A
join-first-requires-send-A g c κs within = search (crosses, node_sync, seat_send, sendable) depth 20
