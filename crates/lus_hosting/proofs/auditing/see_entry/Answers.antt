-- What is lent is what is kept.
use Rattle.std.proofs.Common.{◌≡◌, ◌++◌, ◌∷◌, [], ap, subst, sym}
use Rattle.std.proofs.lemmas.Result.{on_ok_weaker}
use Rattle.std.specs.Arc.{arc_value}
use Rattle.lus_program.specs.Programs.{Program}
use Rattle.lus_live_instance.specs.MachineSpecs.CodeSpecs.Codes.{program_of}
use Rattle.lus_hosting.specs.Audits.{LogEntry}
use Rattle.lus_hosting.specs.LastEntries.{IsEntryOf}
use Rattle.lus_hosting.proofs.auditing.see_entry.Goals as goal

pub returns-clause-seen : goal.returns-clause-seen
returns-clause-seen g c =
    let f = c.args.host.node.0 in
    let same : program_of c.deref.result.now ≡ program_of (arc_value c.args.host.program.now) = ap program_of c.deref.ensures in
    on_ok_weaker c.see.result
    (λ seen lines l number is so_far.
    subst (λ (p : Program). g.O.LogObserver.seen c.see.new.self p f (lines ++ LogEntry l ∷ [])) same
    (seen lines l number (subst (λ o. IsEntryOf o l) (sym c.as_ref-entry.ensures.value) is)
    (subst (λ (p : Program). g.O.LogObserver.seen c.args.observer.now p f lines) (sym same) so_far)))
    c.see.ensures.seen
