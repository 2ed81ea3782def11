-- Instants are attempts without faults.
use Rattle.lus_attempts.proofs.WithoutFault.{without_fault}
use Rattle.lus_attempts.proofs.instants_are_without_fault.Goals as goal

pub returns : goal.returns
returns c = without_fault
