-- The lines so far are turns, and what is written is their entries and answers.
use Rattle.std.specs.Prelude.{◌+◌, ◌≤◌, List}
use Rattle.std.specs.Arc.{arc_value}
use Rattle.lus_live_instance.specs.MachineSpecs.CodeSpecs.Codes.{program_of}
use Rattle.lus_hosting.specs.Hosts.{Keeps}
use Rattle.lus_hosting.specs.Logs.{Logged}
use Rattle.lus_hosting.specs.Turns.{reads_seen}
use Rattle.lus_hosting.proofs.TurnLaws.{SoFar}
use Rattle.lus_hosting.proofs.hosting.host_lines.Given as goal

abbrev pub invariant-loop-turn : goal.invariant-loop-turn
invariant-loop-turn g l =
    (l.entered + l.refused ≤ l.turn)
    × ((before : List Logged) → Keeps (program_of (arc_value l.host.program.now)) l.host.node.0 before l.initial.instances
    → SoFar g.row.L.Denot g.L.Syncs.syncs g.L.Sink.written l.is_synced (reads_seen l.lines) (program_of (arc_value l.host.program.now)) l.host.node.0
    (g.J.Tells.spelling l.scribe) (g.T.Tells.spelling l.teller) before
    (g.S.Source.left l.initial.input) (g.L.Sink.written l.initial.log) (g.O.Sink.written l.initial.output)
    (g.S.Source.left l.input) (g.L.Sink.written l.log) (g.O.Sink.written l.output) l.held.items l.instances l.entered l.refused l.turn)
