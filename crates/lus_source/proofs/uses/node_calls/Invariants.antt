use Rattle.std.proofs.Common.{◌≡◌, take, map, flat_map}
use Rattle.lus_syntax.specs.View.{equation_seen}
use Rattle.lus_source.specs.Loopless.{called}
use Rattle.lus_source.proofs.uses.node_calls.Given as goal

abbrev pub invariant-loop-equation : goal.invariant-loop-equation
invariant-loop-equation l = l.found.items ≡ flat_map (λ q. called l.nodes q.right) (map equation_seen (take l.equation-index l.equation-items))
