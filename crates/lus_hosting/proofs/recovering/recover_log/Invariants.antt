-- The lines so far are those of a log, and have so many bytes.
use Rattle.std.specs.Arc.{arc_value}
use Rattle.lus_live_instance.specs.MachineSpecs.CodeSpecs.Codes.{program_of}
use Rattle.lus_hosting.proofs.RecoveryLaws.{ReadSoFar}
use Rattle.lus_hosting.proofs.recovering.recover_log.Given as goal

abbrev pub invariant-loop-lines : goal.invariant-loop-lines
invariant-loop-lines g l =
    ReadSoFar (program_of (arc_value l.host.program.now)) l.host.node.0 (g.S.Source.left l.initial.source) (g.S.Source.left l.source) l.instances l.lines l.bytes
