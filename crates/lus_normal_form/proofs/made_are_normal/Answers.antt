use Rattle.lus_normal_form.proofs.MadeNodes.{made_are_normal}
use Rattle.lus_normal_form.proofs.made_are_normal.Goals as goal

pub returns : goal.returns
returns c = made_are_normal
