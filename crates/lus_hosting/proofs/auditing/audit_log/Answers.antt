-- A line of a log is one more of those so far, or ends them.
use Rattle.std.proofs.Common.{rules, ◌∙◌, ◌+◌, ap₂, subst, sym, Result, Ok, Err}
use Rattle.std.specs.Prelude.{IfErr, IsErrAnd}
use Rattle.std.specs.Arc.{arc_value}
use Rattle.lus_lawful.specs.Errors.{BlamesIf, IsOutside}
use Rattle.lus_lawful.specs.declared.error.AuditError.{AuditError}
use Rattle.lus_lawful.proofs.Blames.{blames_on}
use Rattle.lus_live_instance.specs.MachineSpecs.Acceptance.{IsAccepted}
use Rattle.lus_live_instance.specs.MachineSpecs.CodeSpecs.Codes.{program_of}
use Rattle.lus_hosting.specs.Audits.{FindsInLog, HasAuditedLog, Observes, wrong_log_text}
use Rattle.lus_hosting.specs.declared.auditing.Found.TheVariants as founds
use Rattle.lus_hosting.proofs.FindingLaws.{audited_all, audited_cut, audited_none, audited_wrong}
use Rattle.lus_hosting.proofs.HostLaws.{none_named}
use Rattle.lus_hosting.proofs.ObservedLaws.{observed_noted, observed_right, observed_start, seen_as}
use Rattle.lus_hosting.proofs.auditing.audit_log.Goals as goal
use Rattle.lus_hosting.proofs.auditing.audit_log.Goals.{in-Noted, in-Right}

pub loop-lines-init : goal.loop-lines-init
loop-lines-init g c = observed_start _ _ _ _ (λ seen. seen) _ (none_named c.no_instances-instances.result c.no_instances-instances.ensures)

pub loop-lines-preserved : goal.loop-lines-preserved
loop-lines-preserved g c =
    let p = program_of (arc_value c.args.program.now) in
    let Begun = g.O.LogObserver.seen c.args.observer.now p c.args.node.0 in
    let Old = g.O.LogObserver.seen c.loop-lines.observer p c.args.node.0 in
    let New = g.O.LogObserver.seen c.observe.new.observer p c.args.node.0 in
    let so_far = c.loop-lines.invariant in
    let finds = c.in_ok-found.ensures.found _ so_far.audited.keeps in
    let sees = c.in_ok-observe.ensures.seen in
    elim c.match-found.branch [
      | in-Right w ↦ observed_right _ _ _ Begun Old New _ _ _ _ so_far _ _ _ _ _ finds sees w.in-Right.is _ w.entries-is
      | in-Noted w ↦ observed_noted _ _ _ Begun Old New _ _ _ _ so_far _ _ _ _ _ finds sees w.in-Noted.is _ w.entries-is
    ]

pub returns-in-NoLine-clause-blames : goal.returns-in-NoLine-clause-blames
returns-in-NoLine-clause-blames g c =
    let accepted : IsAccepted (program_of (arc_value c.args.program.now)) = search rules in
    let audited = c.loop-lines.invariant.audited in
    λ n is. audited_none _ accepted _ _ _ _ _ _ audited _ _ _ _ _ (c.in_ok-found.ensures.found _ audited.keeps) c.in-NoLine.is

pub returns-in-Cut-clause-blames : goal.returns-in-Cut-clause-blames
returns-in-Cut-clause-blames g c =
    let accepted : IsAccepted (program_of (arc_value c.args.program.now)) = search rules in
    let audited = c.loop-lines.invariant.audited in
    λ n is. audited_cut _ accepted _ _ _ _ _ _ audited _ _ _ _ _ (c.in_ok-found.ensures.found _ audited.keeps) c.in-Cut.is

pub returns-in-Wrong-clause-sound : goal.returns-in-Wrong-clause-sound
returns-in-Wrong-clause-sound g c =
    let p = program_of (arc_value c.args.program.now) in
    let accepted : IsAccepted p = search rules in
    let Begun = g.O.LogObserver.seen c.args.observer.now p c.args.node.0 in
    let Old = g.O.LogObserver.seen c.loop-lines.observer p c.args.node.0 in
    let New = g.O.LogObserver.seen c.observe.new.observer p c.args.node.0 in
    let so_far = c.loop-lines.invariant in
    let finds = c.in_ok-found.ensures.found _ so_far.audited.keeps in
    let made = c.in_ok-wrong_report-in-Wrong.ensures in
    let text = made.1 ∙ ap₂ (λ l r. wrong_log_text (c.loop-lines.lines + 1) l r) c.deref-in-Wrong.ensures.value c.deref-in-Wrong-2.ensures in
    subst (λ b. HasAuditedLog p c.args.node.0 (Observes Begun New) b (g.S.Source.left c.args.source.now) c.in_ok-wrong_report-in-Wrong.field-0.text.items) (sym made.0)
    (audited_wrong p accepted _ _ _ _ _ _ so_far.audited (Observes Begun New) _ _ _ _ _ finds c.in-Wrong.is
    (seen_as _ _ _ Begun Old New _ _ _ _ so_far _ _ _ _ _ finds c.in_ok-observe.ensures.seen founds.Wrong c.in-Wrong.is)
    c.in_ok-wrong_report-in-Wrong.field-0.text.items text).0

pub returns-in-Wrong-clause-complete : goal.returns-in-Wrong-clause-complete
returns-in-Wrong-clause-complete g c =
    let p = program_of (arc_value c.args.program.now) in
    let accepted : IsAccepted p = search rules in
    let audited = c.loop-lines.invariant.audited in
    let made = c.in_ok-wrong_report-in-Wrong.ensures in
    let text = made.1 ∙ ap₂ (λ l r. wrong_log_text (c.loop-lines.lines + 1) l r) c.deref-in-Wrong.ensures.value c.deref-in-Wrong-2.ensures in
    subst (λ b. FindsInLog p c.args.node.0 b (g.S.Source.left c.args.source.now) c.in_ok-wrong_report-in-Wrong.field-0.text.items) (sym made.0)
    (audited_wrong p accepted _ _ _ _ _ _ audited (λ lines. Unit {0}) _ _ _ _ _ (c.in_ok-found.ensures.found _ audited.keeps) c.in-Wrong.is (λ l is. tt)
    c.in_ok-wrong_report-in-Wrong.field-0.text.items text).1

pub returns-in-Over-clause-sound : goal.returns-in-Over-clause-sound
returns-in-Over-clause-sound g c =
    let p = program_of (arc_value c.args.program.now) in
    let accepted : IsAccepted p = search rules in
    let Begun = g.O.LogObserver.seen c.args.observer.now p c.args.node.0 in
    let Old = g.O.LogObserver.seen c.loop-lines.observer p c.args.node.0 in
    let New = g.O.LogObserver.seen c.observe.new.observer p c.args.node.0 in
    let so_far = c.loop-lines.invariant in
    let finds = c.in_ok-found.ensures.found _ so_far.audited.keeps in
    let made = c.in_ok-lawful_report-in-Over.ensures in
    subst (λ b. HasAuditedLog p c.args.node.0 (Observes Begun New) b (g.S.Source.left c.args.source.now) c.in_ok-lawful_report-in-Over.field-0.text.items) (sym made.0)
    (audited_all p accepted _ _ _ _ _ _ so_far.audited (Observes Begun New)
    (seen_as _ _ _ Begun Old New _ _ _ _ so_far _ _ _ _ _ finds c.in_ok-observe.ensures.seen founds.Over c.in-Over.is)
    _ _ _ _ _ finds c.in-Over.is c.in_ok-lawful_report-in-Over.field-0.text.items made.1).0

pub returns-in-Over-clause-complete : goal.returns-in-Over-clause-complete
returns-in-Over-clause-complete g c =
    let p = program_of (arc_value c.args.program.now) in
    let accepted : IsAccepted p = search rules in
    let audited = c.loop-lines.invariant.audited in
    let made = c.in_ok-lawful_report-in-Over.ensures in
    subst (λ b. FindsInLog p c.args.node.0 b (g.S.Source.left c.args.source.now) c.in_ok-lawful_report-in-Over.field-0.text.items) (sym made.0)
    (audited_all p accepted _ _ _ _ _ _ audited (λ lines. Unit {0}) tt _ _ _ _ _ (c.in_ok-found.ensures.found _ audited.keeps) c.in-Over.is
    c.in_ok-lawful_report-in-Over.field-0.text.items made.1).1

-- out of memory no line is blamed
outside_blames : {T : Type 0} (Q : Type 0) (r : Result T AuditError) → IsErrAnd r IsOutside → IfErr r (BlamesIf Q)
outside_blames Q (Ok x) outside = absurd outside
outside_blames Q (Err e) outside = λ n is. absurd (outside n is)

pub returns-in_err-observe-clause-blames : goal.returns-in_err-observe-clause-blames
returns-in_err-observe-clause-blames g c =
    blames_on _ _ c.from_residual-in_err-observe.result c.in_err-observe.field-0.0 c.from_residual-in_err-observe.ensures.1 c.in_err-observe.ensures.outside
    (λ never. absurd never)

pub returns-in_err-wrong_report-in-Wrong-clause-blames : goal.returns-in_err-wrong_report-in-Wrong-clause-blames
returns-in_err-wrong_report-in-Wrong-clause-blames g c =
    outside_blames _ c.from_residual-in_err-wrong_report-in-Wrong.result c.from_residual-in_err-wrong_report-in-Wrong.ensures.1

pub returns-in_err-lawful_report-in-Over-clause-blames : goal.returns-in_err-lawful_report-in-Over-clause-blames
returns-in_err-lawful_report-in-Over-clause-blames g c =
    outside_blames _ c.from_residual-in_err-lawful_report-in-Over.result c.from_residual-in_err-lawful_report-in-Over.ensures.1
