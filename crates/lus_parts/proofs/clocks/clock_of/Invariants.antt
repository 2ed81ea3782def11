use Rattle.std.proofs.Common.{◌≡◌, ◌-◌, ◌++◌, map, length}
use Rattle.lus_program.specs.View.{variable_of}
use Rattle.lus_streams.specs.Clocks.{chain}
use Rattle.lus_parts.proofs.clocks.clock_of.Given as goal

abbrev pub invariant-loop-step : goal.invariant-loop-step
invariant-loop-step l =
    let vs = map variable_of l.variables in
    l.clock.items ++ chain (length vs - l._step) vs l.current ≡ chain (length vs) vs l.variable
