-- A journal more is lawful, and the last.
use Rattle.std.proofs.Common.{[], subst, sym}
use Rattle.std.specs.Arc.{arc_value}
use Rattle.lus_devices.specs.Devices.{with_front}
use Rattle.lus_live_instance.specs.MachineSpecs.CodeSpecs.Codes.{program_of}
use Rattle.lus_lawful.specs.Audits.{AreLawful, Gathers}
use Rattle.lus_lawful.proofs.AuditLaws.{gathers_none, last_more, next_more, none_yet, wrong_more}
use Rattle.lus_lawful.proofs.Blames.{blames_on}
use Rattle.lus_lawful.proofs.Reaching.{Reaches, last_reached, next_reached, none_reached, reached_first, wrong_reached}
use Rattle.lus_lawful.proofs.auditing.audit_all.Goals as goal

pub loop-journal-init : goal.loop-journal-init
loop-journal-init g c = (
  none_yet _ _ _ _ (gathers_none _ _ (λ js so_far. so_far)) c.requires.empty,
  reached_first (program_of (arc_value c.args.program.now)) c.requires.accepted c.args.first.items _ _ c.requires.whole c.requires.empty,
)

pub loop-journal-preserved : goal.loop-journal-preserved
loop-journal-preserved g c =
    let p = program_of (arc_value c.args.program.now) in
    let begun = with_front c.args.first.items (g.S.Source.left c.args.source.now) in
    let so_far = subst
    (λ t. AreLawful p (Gathers (g.O.Observers.gathered c.args.observers.now p) (g.O.Observers.gathered c.loop-journal.observers p)) [] begun
    (with_front t (g.S.Source.left c.loop-journal.source)) c.loop-journal.lines c.loop-journal.report.items)
    (sym c.deref.ensures.value) c.loop-journal.invariant.0 in
    let reaches = subst (λ t. Reaches p begun t (g.S.Source.left c.loop-journal.source) c.loop-journal.lines c.loop-journal.report.items)
    (sym c.deref.ensures.value) c.loop-journal.invariant.1 in (
      next_more _ _ _ _ _ _ _ so_far _ _ _ _ _ _ c.in-Next.is c.in_ok-behind.ensures.sound,
      next_reached p c.requires.accepted begun _ _ _ _ reaches _ _ _ _ c.in_ok-behind.ensures.complete _ c.in-Next.is,
    )

pub returns-in-Last-clause-sound : goal.returns-in-Last-clause-sound
returns-in-Last-clause-sound g c =
    let p = program_of (arc_value c.args.program.now) in
    let begun = with_front c.args.first.items (g.S.Source.left c.args.source.now) in
    let so_far = subst
    (λ t. AreLawful p (Gathers (g.O.Observers.gathered c.args.observers.now p) (g.O.Observers.gathered c.loop-journal.observers p)) [] begun
    (with_front t (g.S.Source.left c.loop-journal.source)) c.loop-journal.lines c.loop-journal.report.items)
    (sym c.deref.ensures.value) c.loop-journal.invariant.0 in
    last_more _ _ _ _ _ _ _ so_far _ _ _ _ _ c.in-Last.is c.in_ok-behind.ensures.sound

pub returns-in-Last-clause-complete : goal.returns-in-Last-clause-complete
returns-in-Last-clause-complete g c =
    let p = program_of (arc_value c.args.program.now) in
    let begun = with_front c.args.first.items (g.S.Source.left c.args.source.now) in
    let reaches = subst (λ t. Reaches p begun t (g.S.Source.left c.loop-journal.source) c.loop-journal.lines c.loop-journal.report.items)
    (sym c.deref.ensures.value) c.loop-journal.invariant.1 in
    last_reached p c.requires.accepted begun _ _ _ _ reaches _ _ _ _ c.in_ok-behind.ensures.complete c.in-Last.is

pub returns-in-Wrong-clause-sound : goal.returns-in-Wrong-clause-sound
returns-in-Wrong-clause-sound g c =
    let p = program_of (arc_value c.args.program.now) in
    let begun = with_front c.args.first.items (g.S.Source.left c.args.source.now) in
    let so_far = subst
    (λ t. AreLawful p (Gathers (g.O.Observers.gathered c.args.observers.now p) (g.O.Observers.gathered c.loop-journal.observers p)) [] begun
    (with_front t (g.S.Source.left c.loop-journal.source)) c.loop-journal.lines c.loop-journal.report.items)
    (sym c.deref.ensures.value) c.loop-journal.invariant.0 in
    wrong_more _ _ _ _ _ _ _ so_far _ _ _ _ _ _ c.in-Wrong.is c.in_ok-behind.ensures.sound

pub returns-in-Wrong-clause-complete : goal.returns-in-Wrong-clause-complete
returns-in-Wrong-clause-complete g c =
    let p = program_of (arc_value c.args.program.now) in
    let begun = with_front c.args.first.items (g.S.Source.left c.args.source.now) in
    let reaches = subst (λ t. Reaches p begun t (g.S.Source.left c.loop-journal.source) c.loop-journal.lines c.loop-journal.report.items)
    (sym c.deref.ensures.value) c.loop-journal.invariant.1 in
    wrong_reached p c.requires.accepted begun _ _ _ _ reaches _ _ _ _ c.in_ok-behind.ensures.complete _ c.in-Wrong.is

pub returns-in_err-behind-clause-blames : goal.returns-in_err-behind-clause-blames
returns-in_err-behind-clause-blames g c =
    let p = program_of (arc_value c.args.program.now) in
    let begun = with_front c.args.first.items (g.S.Source.left c.args.source.now) in
    let reaches = subst (λ t. Reaches p begun t (g.S.Source.left c.loop-journal.source) c.loop-journal.lines c.loop-journal.report.items)
    (sym c.deref.ensures.value) c.loop-journal.invariant.1 in
    blames_on _ _ c.from_residual.result c.in_err-behind.field-0.0 c.from_residual.ensures.1 c.in_err-behind.ensures.blames
    (none_reached p c.requires.accepted begun _ _ _ _ reaches)
