-- Over seats, whose calls tell what they did, the callers of scripts are served.
use denote.Param.Send.{sendable}
use Rattle.std.proofs.Common.{refl}
use Rattle.std.specs.Arc.{arc_value}
use Rattle.lus_callers.specs.CodeSpecs.Codes.{program_of}
use Rattle.lus_callers.specs.Scripts.{histories, shares}
use Rattle.lus_callers.proofs.SharedProofs.Sent.{node_sync, seat_send}
use Rattle.lus_scripts.specs.View.{scripts_seen}
use Rattle.lus_host.proofs.Histories.{all_ok, histories_are}
use Rattle.lus_host.proofs.answering.histories_of.Goals as goal

pub run_callers-requires-send-N-Seat : goal.run_callers-requires-send-N-Seat
run_callers-requires-send-N-Seat g c κs within = search (seat_send, sendable)

pub run_callers-requires-sync-N : goal.run_callers-requires-sync-N
run_callers-requires-sync-N g c κs within = search (node_sync, sendable)

pub returns-clause-ok : goal.returns-clause-ok
returns-clause-ok g c =
    let p = program_of (arc_value c.args.program.now) in
    all_ok c.run_callers.result (c.run_callers.ensures.legal refl) c.run_callers.ensures.counted c.run_callers.ensures.served (λ r legal counted served.
    histories_are p (scripts_seen c.args.scripts.now) r.wants.items (shares r) (histories r) _ counted served legal)
