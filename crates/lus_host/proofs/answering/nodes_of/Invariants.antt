-- The nodes so far are those of the instances seen.
use Rattle.std.proofs.Common.{◌≡◌, map, take}
use Rattle.lus_host.proofs.answering.nodes_of.Given as goal

abbrev pub invariant-loop-instance : goal.invariant-loop-instance
invariant-loop-instance l = l.nodes.items ≡ map (λ i. i.id) (take l.instance-index l.instances)
