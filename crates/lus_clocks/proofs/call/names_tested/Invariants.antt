-- The rest is named where the whole is.
use Rattle.std.proofs.Common.{◌≡◌, map, drop}
use Rattle.lus_program.specs.View.{variable_of, operands_of}
use Rattle.lus_streams.specs.OnClock.{actuals}
use Rattle.lus_clocks.specs.Fitting.{names_in, are_named}
use Rattle.lus_clocks.proofs.call.names_tested.Given as goal

abbrev pub invariant-loop-formal : goal.invariant-loop-formal
invariant-loop-formal l =
    let names = names_in (actuals (operands_of l.arguments) l.targets) in
    are_named names (map variable_of (drop l.formal-index l.formals)) ≡ are_named names (map variable_of l.formals)
