-- A node with seats may be shared by threads, and a seat may go to one.
use denote.Param.Send.{sendable}
use Rattle.lus_callers.proofs.SharedProofs.Sent.{node_sync, seat_send}
use Rattle.lus_host_tests.proofs.promises.run_served.Goals as goal

pub run_callers-requires-send-N-Seat : goal.run_callers-requires-send-N-Seat
run_callers-requires-send-N-Seat g c κs within = search (seat_send, sendable)

pub run_callers-requires-sync-N : goal.run_callers-requires-sync-N
run_callers-requires-sync-N g c κs within = search (node_sync, sendable)
