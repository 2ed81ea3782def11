use Rattle.std.proofs.Common.{◌≡◌, take, map}
use Rattle.lus_graph.specs.Walks.{uses_of}
use Rattle.lus_syntax.specs.View.{node_seen}
use Rattle.lus_source.specs.Loopless.{calls_of}
use Rattle.lus_source.proofs.uses.node_uses.Given as goal

abbrev pub invariant-loop-node : goal.invariant-loop-node
invariant-loop-node l = uses_of l.uses.items ≡ map (calls_of l.nodes) (map node_seen (take l.node-index l.node-items))
