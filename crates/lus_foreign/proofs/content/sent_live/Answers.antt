use denote.Param.Send.{sendable}
use Rattle.lus_foreign.proofs.Sent.{live_send}
use Rattle.lus_foreign.proofs.content.sent_live.Goals as goal

pub send-requires-send-T : goal.send-requires-send-T
send-requires-send-T c κs = search (live_send, sendable)
