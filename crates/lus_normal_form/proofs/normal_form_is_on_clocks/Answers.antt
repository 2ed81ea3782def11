-- A normal form is on clocks where its source is.
use Rattle.lus_normal_form.proofs.NormalOnClocks.{normal_is_on_clocks}
use Rattle.lus_normal_form.proofs.normal_form_is_on_clocks.Goals as goal

pub returns : goal.returns
returns c = normal_is_on_clocks
