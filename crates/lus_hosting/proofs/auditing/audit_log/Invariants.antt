-- The lines so far are those of a log, and were seen.
use Rattle.std.specs.Arc.{arc_value}
use Rattle.lus_live_instance.specs.MachineSpecs.CodeSpecs.Codes.{program_of}
use Rattle.lus_hosting.specs.Audits.{Observes}
use Rattle.lus_hosting.proofs.ObservedLaws.{Observed}
use Rattle.lus_hosting.proofs.auditing.audit_log.Given as goal

abbrev pub invariant-loop-lines : goal.invariant-loop-lines
invariant-loop-lines g l =
    let p = program_of (arc_value l.host.program.now) in
    let node = l.host.node.0 in
    Observed p node (g.S.Source.left l.initial.source) (Observes (g.O.LogObserver.seen l.initial.observer p node) (g.O.LogObserver.seen l.observer p node))
    (g.S.Source.left l.source) l.instances l.lines l.entries
