use Rattle.std.proofs.Common.{◌≡◌, drop, length, map}
use Rattle.lus_program.specs.View.{node_of}
use Rattle.lus_same.specs.Nameless.{nameless_node}
use Rattle.lus_same.proofs.nodes.same_nodes.Given as goal

abbrev pub invariant-loop-node : goal.invariant-loop-node
invariant-loop-node l =
    map nameless_node (map node_of (drop (length l.yielded) l.left)) ≡ map nameless_node (map node_of (drop (length l.yielded) l.right)) → map nameless_node (map node_of l.left) ≡ map nameless_node (map node_of l.right)
