use denote.Param.Send.{sendable}
use Rattle.lus_callers.proofs.SharedProofs.Sent.{locked_sync}
use Rattle.lus_host_tests.proofs.runs.goes_over_locks.Goals as goal

pub run_callers-requires-sync-N : goal.run_callers-requires-sync-N
run_callers-requires-sync-N g c κs within = search (locked_sync, sendable)
