-- A locked node and one with seats may be shared by threads, and a seat may go to one.
use denote.Param.Send.{sendable}
use Rattle.lus_cli.proofs.HostProofs.SharedProofs.Sent.{locked_sync, node_sync, seat_send}
use Rattle.lus_surface_tests.proofs.tests.are_run.Goals as goal

pub run_scripts-locked-requires-sync-N : goal.run_scripts-locked-requires-sync-N
run_scripts-locked-requires-sync-N g c κs within = search (locked_sync, sendable)

pub run_scripts-seated-requires-send-N-Seat : goal.run_scripts-seated-requires-send-N-Seat
run_scripts-seated-requires-send-N-Seat g c κs within = search (seat_send, sendable)

pub run_scripts-seated-requires-sync-N : goal.run_scripts-seated-requires-sync-N
run_scripts-seated-requires-sync-N g c κs within = search (node_sync, sendable)
