use Rattle.std.proofs.Common.{◌≡◌, ◌≤◌, ◌+◌, drop, sum_by}
use Rattle.std.specs.Prelude.{min}
use Rattle.lus_program.specs.View.{expression_of, node_of, program_seen}
use Rattle.lus_cells.specs.Given.{counted}
use Rattle.lus_cells.proofs.weights.node_cells.Given as goal

abbrev pub invariant-loop-equation : goal.invariant-loop-equation
invariant-loop-equation l =
    (min (l.total + sum_by (λ q. counted (program_seen l.program) (node_of l.node) l.leaves l.cells (expression_of q.right)) (drop l.equation-index l.node.equations.items)) 4294967295 ≡ min (sum_by (λ q. counted (program_seen l.program) (node_of l.node) l.leaves l.cells (expression_of q.right)) l.node.equations.items) 4294967295) × (l.total ≤ 4294967295)
