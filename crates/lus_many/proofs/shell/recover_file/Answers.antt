-- What was recovered of a file that was opened is recovered of its bytes.
use Rattle.std.proofs.Common.{subst, sym}
use Rattle.lus_live.specs.Ends.{IsRecoveryFault}
use Rattle.lus_live.proofs.EndLemmas.{recovery_faults}
use Rattle.lus_many.proofs.EndLemmas.{recovered_file}
use Rattle.lus_many.proofs.shell.recover_file.Goals as goal

pub returns-clause-fault : goal.returns-clause-fault
returns-clause-fault g c = subst IsRecoveryFault (sym c.refuse.ensures.fault) (recovery_faults c.in-Err.error)

pub returns-in-Ok-recover_log-clause-recovered : goal.returns-in-Ok-recover_log-clause-recovered
returns-in-Ok-recover_log-clause-recovered g c = recovered_file _ _ _ _ _ _ c.in-Ok.ensures.opened c.new-source.ensures c.in-Ok-recover_log.ensures
