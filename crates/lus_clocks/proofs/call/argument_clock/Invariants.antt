-- What is left of the formal's clock gives the argument the clock that the whole gives.
use Rattle.std.proofs.Common.{◌≡◌, ◌-◌, [], map, length}
use Rattle.lus_program.specs.View.{variable_of, operands_of}
use Rattle.lus_streams.specs.Clocks.{chain}
use Rattle.lus_streams.specs.OnClock.{actuals}
use Rattle.lus_clocks.specs.Fitting.{names_in, renamed_first}
use Rattle.lus_clocks.specs.View.{clock_in}
use Rattle.lus_clocks.proofs.call.argument_clock.Given as goal

abbrev pub invariant-loop-step : goal.invariant-loop-step
invariant-loop-step l =
    let vs = map variable_of l.formals in
    let names = names_in (actuals (operands_of l.arguments) []) in
    renamed_first names (chain (length vs - l._step) vs l.current) (clock_in l.base) ≡ renamed_first names (chain (length vs) vs l.formal) (clock_in l.base)
