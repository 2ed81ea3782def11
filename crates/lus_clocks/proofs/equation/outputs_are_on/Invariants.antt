-- The rest is on the clocks of its outputs where the whole is.
use Rattle.std.proofs.Common.{◌≡◌, drop}
use Rattle.lus_program.specs.Programs.{node_at}
use Rattle.lus_program.specs.View.{node_of, operands_of, program_seen}
use Rattle.lus_streams.specs.OnClock.{actuals}
use Rattle.lus_clocks.specs.Fitting.{names_in, outputs_fit}
use Rattle.lus_clocks.specs.View.{clock_in}
use Rattle.lus_clocks.proofs.equation.outputs_are_on.Given as goal

abbrev pub invariant-loop-output : goal.invariant-loop-output
invariant-loop-output l =
    let g = node_at (program_seen l.program) l.called in
    let names = names_in (actuals (operands_of l.arguments) l.targets) in
    outputs_fit (node_of l.node) g names (clock_in l.base) l.output (drop l.output l.targets) ≡ outputs_fit (node_of l.node) g names (clock_in l.base) 0 l.targets
