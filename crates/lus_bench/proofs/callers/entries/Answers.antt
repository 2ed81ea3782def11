-- A locked node and one with seats may be shared by threads, and a seat may go to one.
use denote.Param.Send.{sendable}
use Rattle.lus_host.proofs.SharedProofs.Sent.{locked_sync, node_sync, seat_send}
use Rattle.lus_bench.proofs.callers.entries.Goals as goal

pub run_callers-ended-requires-sync-N : goal.run_callers-ended-requires-sync-N
run_callers-ended-requires-sync-N g c κs within = search (locked_sync, sendable)

pub run_callers-ended-requires-in-Seats-send-N-Seat : goal.run_callers-ended-requires-in-Seats-send-N-Seat
run_callers-ended-requires-in-Seats-send-N-Seat g c κs within = search (seat_send, sendable)

pub run_callers-ended-requires-in-Seats-sync-N : goal.run_callers-ended-requires-in-Seats-sync-N
run_callers-ended-requires-in-Seats-sync-N g c κs within = search (node_sync, sendable)
