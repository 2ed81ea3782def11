-- A resolved program on clocks names only what there is.
use Rattle.lus_normal_form.proofs.ResolvedNamed.{resolved_are_named}
use Rattle.lus_normal_form.proofs.resolved_are_named.Goals as goal

pub returns : goal.returns
returns c = resolved_are_named
