-- The rest is false where the whole is.
use Rattle.std.proofs.Common.{◌≡◌, drop}
use Rattle.lus_clocks.specs.Raising.{none_raised}
use Rattle.lus_clocks.proofs.required.check_none_raised.Given as goal

abbrev pub invariant-loop-variable : goal.invariant-loop-variable
invariant-loop-variable l = none_raised (drop l.variable l.flags) ≡ none_raised l.flags
