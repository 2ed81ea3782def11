-- What is kept goes on from instant to instant.
use Rattle.lus_reference.proofs.Onward.{keeps_on}
use Rattle.lus_reference.proofs.values_are_kept.Goals as goal

pub returns : goal.returns
returns c = keeps_on
