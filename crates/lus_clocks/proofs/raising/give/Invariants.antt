-- The rest of the variables makes of the table what all make of the first.
use Rattle.std.proofs.Common.{◌≡◌, drop}
use Rattle.lus_clocks.specs.Raising.{given}
use Rattle.lus_clocks.proofs.raising.give.Given as goal

abbrev pub invariant-loop-variable : goal.invariant-loop-variable
invariant-loop-variable l = given l.flags.items (drop l.variable-index l.variables) l.flag ≡ given l.initial.flags.items l.variables l.flag
