use Rattle.lus_normal_form.proofs.RightsNormal.{rights_are_normal}
use Rattle.lus_normal_form.proofs.rights_are_normal.Goals as goal

pub returns : goal.returns
returns c = rights_are_normal
