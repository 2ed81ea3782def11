-- What is passed is on the clocks of the formals.
use Rattle.lus_attempts.proofs.Formals.{inputs_on_clocks}
use Rattle.lus_attempts.proofs.arguments_fit_formals.Goals as goal

pub returns : goal.returns
returns c = inputs_on_clocks
