use denote.Param.Send.{sendable}
use Rattle.lus_foreign.proofs.Sent.{seat_with_node_send}
use Rattle.lus_foreign.proofs.content.sent.Goals as goal

pub send-requires-send-T : goal.send-requires-send-T
send-requires-send-T c κs = search (seat_with_node_send, sendable)
