use Rattle.lus_normal_form.proofs.Numbers.{numbers_stay}
use Rattle.lus_normal_form.proofs.numbers_stay.Goals as goal

pub returns : goal.returns
returns c = numbers_stay
