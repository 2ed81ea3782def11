-- The journal is the one that was replayed.
use Rattle.std.proofs.Common.{◌∙◌, ◌+◌, ◌++◌, ap, ap₂}
use Rattle.std.specs.Arc.{arc_value}
use Rattle.lus_live_instance.specs.MachineSpecs.CodeSpecs.Codes.{program_of}
use Rattle.lus_live_instance.proofs.LiveLaws.{named_within}
use Rattle.lus_lawful.specs.Journals.{wrong_text}
use Rattle.lus_lawful.proofs.AuditLaws.{journal_cut, journal_last, journal_next, journal_wrong}
use Rattle.lus_lawful.proofs.Findings.{finds_cut, finds_last, finds_next, finds_wrong, none_left}
use Rattle.lus_lawful.proofs.auditing.audit_journal.Goals as goal

pub begin_journal-requires : goal.begin_journal-requires
begin_journal-requires g c = named_within (program_of (arc_value c.args.program.now)) c.args.head.node.now c.args.node.0 c.requires

pub replay_new-requires-clause-within : goal.replay_new-requires-clause-within
replay_new-requires-clause-within g c = named_within (program_of (arc_value c.args.program.now)) c.args.head.node.now c.args.node.0 c.requires

pub returns-in-Next-clause-sound : goal.returns-in-Next-clause-sound
returns-in-Next-clause-sound g c =
    journal_next _ _ _ _ c.requires _ _ _ _ _ _ _ _ _ _ c.in_ok-replayed.ensures.replayed c.in_ok-behind.ensures.sum _ _
    (λ js j instance node seen so_far. c.in_ok-pass_journal-in-Next.ensures.gathered js j instance node seen (c.in_ok-observer.ensures.kept js so_far))
    c.in-Next.is c.in_ok-pass_journal-in-Next.ensures.reported

pub returns-in-End-clause-sound : goal.returns-in-End-clause-sound
returns-in-End-clause-sound g c =
    journal_last _ _ _ _ c.requires _ _ _ _ _ _ _ _ _ _ c.in_ok-replayed.ensures.replayed c.in_ok-behind.ensures.sum _ _
    (λ js j instance node seen so_far. c.in_ok-pass_journal-in-End.ensures.gathered js j instance node seen (c.in_ok-observer.ensures.kept js so_far))
    c.in-End.is c.in_ok-pass_journal-in-End.ensures.reported

pub returns-in-Cut-clause-sound : goal.returns-in-Cut-clause-sound
returns-in-Cut-clause-sound g c =
    journal_cut _ _ _ _ c.requires _ _ _ _ _ _ _ _ _ _ c.in_ok-replayed.ensures.replayed c.in_ok-behind.ensures.sum _ _
    (λ js j instance node seen so_far. c.in_ok-pass_journal-in-Cut.ensures.gathered js j instance node seen (c.in_ok-observer.ensures.kept js so_far))
    c.in-Cut.is c.in_ok-pass_journal-in-Cut.ensures.reported

pub returns-in-Wrong-clause-sound : goal.returns-in-Wrong-clause-sound
returns-in-Wrong-clause-sound g c =
    journal_wrong _ _ _ _ c.requires _ _ _ _ _ _ _ _ _ _ c.in_ok-replayed.ensures.replayed c.in_ok-behind.ensures.sum _ _
    c.in_ok-observer.ensures.kept _ c.in_ok-number-in-Wrong.ensures.sum c.in-Wrong.is
    (c.in_ok-push_wrong-in-Wrong.ensures
    ∙ ap₂ (λ l r. c.args.report.now.items ++ wrong_text c.args.head.instance.now c.in_ok-number-in-Wrong.number l r) c.deref.ensures.value c.deref-in-Wrong.ensures)

pub returns-in-Next-clause-complete : goal.returns-in-Next-clause-complete
returns-in-Next-clause-complete g c =
    finds_next _ _ _ _ c.requires _ _ _ _ _ _ _ c.in_ok-replayed.ensures.replayed _ _ _ c.in_ok-behind.ensures.sum c.in-Next.is
    c.in_ok-pass_journal-in-Next.ensures.reported

pub returns-in-End-clause-complete : goal.returns-in-End-clause-complete
returns-in-End-clause-complete g c =
    finds_last _ _ _ _ c.requires _ _ _ _ _ _ _ c.in_ok-replayed.ensures.replayed _ _ _ c.in_ok-behind.ensures.sum c.in-End.is
    c.in_ok-pass_journal-in-End.ensures.reported

pub returns-in-Cut-clause-complete : goal.returns-in-Cut-clause-complete
returns-in-Cut-clause-complete g c =
    finds_cut _ _ _ _ c.requires _ _ _ _ _ _ _ c.in_ok-replayed.ensures.replayed _ _ _ c.in_ok-behind.ensures.sum c.in-Cut.is
    c.in_ok-pass_journal-in-Cut.ensures.reported

pub returns-in-Wrong-clause-complete : goal.returns-in-Wrong-clause-complete
returns-in-Wrong-clause-complete g c =
    finds_wrong _ _ _ _ c.requires _ _ _ _ _ _ _ c.in_ok-replayed.ensures.replayed _ _ _
    (c.in_ok-number-in-Wrong.ensures.sum ∙ ap (λ n. n + 1) c.in_ok-behind.ensures.sum) c.in-Wrong.is
    (c.in_ok-push_wrong-in-Wrong.ensures
    ∙ ap₂ (λ l r. c.args.report.now.items ++ wrong_text c.args.head.instance.now c.in_ok-number-in-Wrong.number l r) c.deref.ensures.value c.deref-in-Wrong.ensures)

pub returns-clause-blames : goal.returns-clause-blames
returns-clause-blames g c = λ n is. none_left _ _ _ _ c.requires _ _ c.args.lines _ _ _ _ c.in_ok-replayed.ensures.replayed c.in-NoEntry.is
