-- A normal form's equations are simple.
use Rattle.lus_normal_form.proofs.Simple.{normal_is_simple}
use Rattle.lus_normal_form.proofs.normal_form_is_simple.Goals as goal

pub returns : goal.returns
returns c = normal_is_simple
