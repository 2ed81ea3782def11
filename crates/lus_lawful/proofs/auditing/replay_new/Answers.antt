-- What was replayed on an instance that is live is its lawful history, which was observed.
use Rattle.std.proofs.Common.{rules, ◌≡◌}
use Rattle.std.specs.Arc.{arc_value}
use Rattle.lus_live_instance.specs.MachineSpecs.CodeSpecs.Codes.{program_of}
use Rattle.lus_live_instance.specs.MachineSpecs.Constructors.{names_of}
use Rattle.lus_lawful.proofs.AuditLaws.{replayed_lawfully}
use Rattle.lus_lawful.proofs.auditing.replay_new.Goals as goal

pub returns-clause-replayed : goal.returns-clause-replayed
returns-clause-replayed g c =
    let named : c.names.result.now ≡ names_of (program_of (arc_value c.args.program.now)) = search rules in
    replayed_lawfully _ _ _ _ _ _ _ _ _ _ _ _ _ _ (c.replay.ensures.same _ _ c.in_ok-observed.ensures.observed) c.if-observed.false
    c.in_ok-observed.ensures.empty named c.in_ok-replayed.ensures.replayed c.in_ok-replayed.ensures.complete
