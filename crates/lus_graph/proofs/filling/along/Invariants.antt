use Rattle.std.proofs.Common.{take}
use Rattle.lus_graph.specs.Along.{IsFilled}
use Rattle.lus_graph.proofs.filling.along.Given as goal

abbrev pub invariant-loop-thing : goal.invariant-loop-thing
invariant-loop-thing g l = IsFilled (g.R.Rule.uses l.rule) (g.R.Rule.nothing l.rule) (g.R.Rule.step l.rule) (g.R.Rule.fits l.rule) (take l.thing-index l.order) l.table.items
