-- A fault ends streams.
use Rattle.lus_attempts.proofs.WithoutFault.{faults_end}
use Rattle.lus_attempts.proofs.faults_end_streams.Goals as goal

pub returns : goal.returns
returns c = faults_end
