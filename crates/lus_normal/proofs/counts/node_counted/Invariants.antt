use Rattle.std.proofs.Common.{◌≡◌, ◌≤◌, ◌+◌, drop}
use Rattle.std.specs.Prelude.{min}
use Rattle.lus_normal.proofs.StoredCounts.{stored_counts}
use Rattle.lus_normal.proofs.counts.node_counted.Given as goal

abbrev pub invariant-loop-equation : goal.invariant-loop-equation
invariant-loop-equation l =
    let stored = l.node.equations.items in
    (min (l.total + stored_counts l.pres l.arrows (drop l.equation-index stored)) 4294967295 ≡ min (stored_counts l.pres l.arrows stored) 4294967295) × (l.total ≤ 4294967295)
