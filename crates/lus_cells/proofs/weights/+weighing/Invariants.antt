use Rattle.std.proofs.Common.{◌≡◌, ◌≤◌, ◌+◌, drop}
use Rattle.std.specs.Prelude.{min}
use Rattle.lus_program.specs.declared.types.Kind.TheVariants as kinds
use Rattle.lus_program.specs.View.{node_of, operands_of, program_seen}
use Rattle.lus_program.specs.Given.{last_given}
use Rattle.lus_cells.specs.Given.{all_counted}
use Rattle.lus_cells.proofs.weights.+weighing.Given as goal

abbrev pub invariant-weigh_all-loop-operand : goal.invariant-weigh_all-loop-operand
invariant-weigh_all-loop-operand l = record {
  last : last_given (program_seen l.program) (node_of l.node) l.kind (operands_of (drop l.operand-index l.operands)) ≡ last_given (program_seen l.program) (node_of l.node) kinds.Bool (operands_of l.operands);
  sum : min (l.total + all_counted (program_seen l.program) (node_of l.node) l.leaves l.cells (operands_of (drop l.operand-index l.operands))) 4294967295 ≡ min (all_counted (program_seen l.program) (node_of l.node) l.leaves l.cells (operands_of l.operands)) 4294967295;
  small : l.total ≤ 4294967295;
}
