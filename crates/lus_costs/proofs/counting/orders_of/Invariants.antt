use Rattle.std.proofs.Common.{take}
use Rattle.lus_graph.specs.Along.{IsFilled}
use Rattle.lus_costs.specs.Costs.{code_uses}
use Rattle.lus_costs.proofs.Counted.{cut_step}
use Rattle.lus_costs.proofs.counting.orders_of.Given as goal

abbrev pub invariant-loop-place : goal.invariant-loop-place
invariant-loop-place l = IsFilled (code_uses l.classes) 0 (cut_step l.classes) (λ n. Unit {0}) (take l.place-index l.order) l.counts.items
