use Rattle.lus_emission.proofs.Steps.{code_makes_class_steps}
use Rattle.lus_emission.proofs.laws.code_makes_class_steps.Goals as goal

pub returns : goal.returns
returns c = code_makes_class_steps
