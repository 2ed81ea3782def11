use Rattle.lus_emission.proofs.Steps.{code_nests}
use Rattle.lus_emission.proofs.laws.code_nests.Goals as goal

pub returns : goal.returns
returns c = code_nests
