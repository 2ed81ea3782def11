use Rattle.lus_emission.proofs.Underway.{get_set_other}
use Rattle.lus_emission.proofs.classes.taken.Goals as goal

pub returns-clause-others : goal.returns-clause-others
returns-clause-others c = λ g ne. get_set_other c.args.parts.now c.args.place g c.replace.new.dest ne
