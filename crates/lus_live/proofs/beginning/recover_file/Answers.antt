-- What was recovered of a file that was opened is recovered of its bytes.
use Rattle.std.proofs.Common.{rules, ◌≡◌, subst, sym}
use Rattle.std.specs.Arc.{arc_value}
use Rattle.lus_live_instance.specs.MachineSpecs.CodeSpecs.Codes.{program_of}
use Rattle.lus_live_instance.specs.MachineSpecs.Constructors.{names_of}
use Rattle.lus_live.specs.Ends.{IsRecoveryFault}
use Rattle.lus_live.proofs.EndLemmas.{recovered_file, recovery_faults}
use Rattle.lus_live.proofs.beginning.recover_file.Goals as goal

pub returns-clause-fault : goal.returns-clause-fault
returns-clause-fault g c = subst IsRecoveryFault (sym c.refuse.ensures.fault) (recovery_faults c.in-Err.error)

pub returns-in-Ok-recover-clause-recovered : goal.returns-in-Ok-recover-clause-recovered
returns-in-Ok-recover-clause-recovered g c =
    let named : c.names.result.now ≡ names_of (program_of (arc_value c.args.program.now)) = search rules in
    recovered_file _ (program_of (arc_value c.args.program.now)) _ _ _ _ _ _ _ c.in-Ok.ensures.opened c.new-source.ensures c.in_ok-instance.ensures.empty named c.in-Ok-recover.ensures.recovered

pub returns-in-Ok-recover-clause-live : goal.returns-in-Ok-recover-clause-live
returns-in-Ok-recover-clause-live g c = c.recover.ensures.same _ _ c.in_ok-instance.ensures.live
