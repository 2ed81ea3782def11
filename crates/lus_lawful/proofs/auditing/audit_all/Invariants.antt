-- The journals so far are lawful and were gathered, and the first line of the next was read; so it was of journals that can be read back.
use Rattle.std.specs.Prelude.{[]}
use Rattle.std.specs.Arc.{arc_value}
use Rattle.lus_devices.specs.Devices.{with_front}
use Rattle.lus_live_instance.specs.MachineSpecs.CodeSpecs.Codes.{program_of}
use Rattle.lus_lawful.specs.Audits.{AreLawful, Gathers}
use Rattle.lus_lawful.proofs.Reaching.{Reaches}
use Rattle.lus_lawful.proofs.auditing.audit_all.Given as goal

abbrev pub invariant-loop-journal : goal.invariant-loop-journal
invariant-loop-journal g l =
    let p = program_of (arc_value l.program) in
    AreLawful p (Gathers (g.O.Observers.gathered l.initial.observers p) (g.O.Observers.gathered l.observers p)) []
    (with_front l.initial.first.items (g.S.Source.left l.initial.source))
    (with_front l.first.items (g.S.Source.left l.source)) l.lines l.report.items
    × Reaches p (with_front l.initial.first.items (g.S.Source.left l.initial.source))
    l.first.items (g.S.Source.left l.source) l.lines l.report.items
