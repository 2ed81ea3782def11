-- What is left of the output's clock leads from what is left of the variable's to the base where the whole does.
use Rattle.std.proofs.Common.{◌≡◌, ◌-◌, map, length}
use Rattle.lus_program.specs.View.{variable_of, node_of, operands_of}
use Rattle.lus_streams.specs.Clocks.{chain}
use Rattle.lus_streams.specs.OnClock.{actuals}
use Rattle.lus_clocks.specs.Fitting.{names_in, leads_to}
use Rattle.lus_clocks.specs.View.{clock_in}
use Rattle.lus_clocks.proofs.call.follows_base.Given as goal

abbrev pub invariant-loop-step : goal.invariant-loop-step
invariant-loop-step l =
    let vs = map variable_of l.formals in
    let names = names_in (actuals (operands_of l.arguments) l.targets) in
    leads_to (node_of l.node) names (chain (length vs - l._step) vs l.formal) (clock_in l.base) (clock_in l.rest) ≡ leads_to (node_of l.node) names (chain (length vs) vs l.output) (clock_in l.base) (clock_in l.fn.clock)
