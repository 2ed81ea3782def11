-- The rest is on clocks where the whole is.
use Rattle.std.proofs.Common.{◌≡◌, [], drop}
use Rattle.lus_program.specs.Programs.{node_at}
use Rattle.lus_program.specs.View.{node_of, operands_of, program_seen}
use Rattle.lus_streams.specs.OnClock.{actuals}
use Rattle.lus_clocks.specs.Fitting.{operands_fit, branches_fit, arguments_fit, names_in}
use Rattle.lus_clocks.specs.View.{clock_in}
use Rattle.lus_clocks.proofs.expression.+expressions.Given as goal

abbrev pub invariant-check_operands-loop-operand : goal.invariant-check_operands-loop-operand
invariant-check_operands-loop-operand l =
    operands_fit (program_seen l.program) (node_of l.node) (operands_of (drop l.operand-index l.operands)) (clock_in l.clock)
    ≡ operands_fit (program_seen l.program) (node_of l.node) (operands_of l.operands) (clock_in l.clock)

abbrev pub invariant-check_branches-loop-constructor :
    goal.invariant-check_branches-loop-constructor
invariant-check_branches-loop-constructor l =
    branches_fit (program_seen l.program) (node_of l.node) (operands_of (drop l.constructor l.branches)) l.variable l.constructor
    ≡ branches_fit (program_seen l.program) (node_of l.node) (operands_of l.branches) l.variable 0

abbrev pub invariant-check_arguments-loop-formal : goal.invariant-check_arguments-loop-formal
invariant-check_arguments-loop-formal l =
    let p = program_seen l.program in
    let names = names_in (actuals (operands_of l.arguments) []) in
    arguments_fit p (node_of l.node) (operands_of (drop l.formal l.arguments)) (node_at p l.called) names (clock_in l.base) l.formal
    ≡ arguments_fit p (node_of l.node) (operands_of l.arguments) (node_at p l.called) names (clock_in l.base) 0
