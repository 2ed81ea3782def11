-- A seat and a live instance as handles hold them may go to another thread.
use denote.Param.Send.{IsSend, IsSync, sendable}
use Rattle.std.proofs.Crossing.{crosses}
use Rattle.atomic_table.proofs.owned.Table.TheSendSync as table
use Rattle.lus_values.proofs.value.Value.TheLaws.TheKnot as value
use Rattle.lus_live_node.proofs.MachineProofs.Sent.{program_send, program_sync, machine_send, reactor_send, entry_send}
use Rattle.lus_shared.proofs.Sent.{node_sync, seat_send}
use Rattle.lus_requests.specs.contracts.request.Reply as Reply
use Rattle.lus_live_node.specs.contracts.live_node.LiveNode as LiveNode
use Rattle.lus_foreign.specs.contracts.node_seat.Opened as Opened
use Rattle.lus_foreign.specs.contracts.node_seat.NodeSeat as NodeSeat

reply_send : IsSend Reply.the_row
reply_send = search (crosses, value.crosses, sendable) depth 60 fits 20000

opened_send : IsSend Opened.the_row
opened_send = search (crosses, table.the_field_send, machine_send, program_send, program_sync, sendable) depth 20

opened_sync : IsSync Opened.the_row
opened_sync = search (crosses, node_sync, program_send, program_sync, sendable) depth 20

pub seat_with_node_send : IsSend NodeSeat.the_row
seat_with_node_send = search (crosses, seat_send, opened_send, opened_sync, reply_send, sendable) depth 20

pub live_send : IsSend LiveNode.the_row
live_send = search (crosses, reactor_send, program_send, program_sync, entry_send, sendable) depth 20
