-- Nothing was cut, or what stood behind the whole lines.
use Rattle.lus_many.proofs.EndLemmas.{cut_none, cut_some}
use Rattle.lus_many.proofs.shell.cut_tail.Goals as goal

pub returns-in_default-clause-taken : goal.returns-in_default-clause-taken
returns-in_default-clause-taken g c = cut_none g.L.Log.cuts _ _ _ c.in_default.is

pub returns-in-Ok-clause-taken : goal.returns-in-Ok-clause-taken
returns-in-Ok-clause-taken g c = cut_some g.L.Log.cuts _ _ _ _ _ c.in-Some.is c.in-Ok.ensures.taken
