use Rattle.std.proofs.Common.{◌≡◌, ◌≤◌, ◌+◌, drop}
use Rattle.std.specs.Prelude.{min}
use Rattle.lus_normal.proofs.StoredParts.{nodes_parts}
use Rattle.lus_normal.proofs.parts.has_few_parts.Given as goal

abbrev pub invariant-loop-node : goal.invariant-loop-node
invariant-loop-node l =
    let stored = l.program.nodes.items in
    (min (l.total + nodes_parts (drop l.node-index stored)) 4294967295 ≡ min (nodes_parts stored) 4294967295) × (l.total ≤ 4294967295)
