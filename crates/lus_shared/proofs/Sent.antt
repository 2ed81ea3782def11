-- A node of either kind may be shared by threads, and a seat at the table may go to one.
use denote.Param.Send.{IsSend, IsSync, sendable}
use Rattle.std.proofs.Crossing.{crosses}
use Rattle.atomic_table.proofs.owned.Table.TheSendSync as table
use Rattle.atomic_table.proofs.shared.Seat.TheSendSync as place
use Rattle.lus_machine.proofs.Sent.{machine_send}
use Rattle.lus_shared.specs.contracts.locked.LockedNode as LockedNode
use Rattle.lus_shared.specs.contracts.seat.Seat as Seat
use Rattle.lus_shared.specs.contracts.seat.SeatNode as SeatNode

pub node_sync : IsSync SeatNode.the_row
node_sync = search (crosses, table.the_field_sync, machine_send, sendable) depth 20

pub seat_send : IsSend Seat.the_row
seat_send = search (crosses, place.the_send, machine_send, sendable) depth 20

pub locked_sync : IsSync LockedNode.the_row
locked_sync = search (crosses, machine_send, sendable) depth 20
