use Rattle.lus_normal_form.proofs.TakenWithin.{taken_within}
use Rattle.lus_normal_form.proofs.taken_are_within.Goals as goal

pub returns : goal.returns
returns c = taken_within
