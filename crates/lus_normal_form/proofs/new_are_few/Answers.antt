use Rattle.lus_normal_form.proofs.NewAreFew as law
use Rattle.lus_normal_form.proofs.new_are_few.Goals as goal

pub returns : goal.returns
returns c = law.new_are_few
