use Rattle.std.proofs.Common.{◌≡◌, ◌≤◌, ◌+◌, drop}
use Rattle.std.specs.Prelude.{min}
use Rattle.lus_normal.proofs.StoredParts.{equations_parts}
use Rattle.lus_normal.proofs.parts.node_parts.Given as goal

abbrev pub invariant-loop-equation : goal.invariant-loop-equation
invariant-loop-equation l =
    let stored = l.node.equations.items in
    (min (l.total + equations_parts (drop l.equation-index stored)) 4294967295 ≡ min (equations_parts stored) 4294967295) × (l.total ≤ 4294967295)
