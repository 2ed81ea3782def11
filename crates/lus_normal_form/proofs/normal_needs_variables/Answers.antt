use Rattle.lus_normal_form.proofs.NeedsKnown.{normal_needs_variables}
use Rattle.lus_normal_form.proofs.normal_needs_variables.Goals as goal

pub returns : goal.returns
returns c = normal_needs_variables
