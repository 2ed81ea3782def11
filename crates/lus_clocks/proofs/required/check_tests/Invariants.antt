-- The rest tests no variable of flag 1 where the whole does not.
use Rattle.std.proofs.Common.{◌≡◌, drop, map}
use Rattle.lus_program.specs.View.{variable_of}
use Rattle.lus_clocks.specs.Raising.{flags_in, tests_meet}
use Rattle.lus_clocks.proofs.required.check_tests.Given as goal

abbrev pub invariant-loop-variable : goal.invariant-loop-variable
invariant-loop-variable l = tests_meet (flags_in l.flags) (map variable_of (drop l.variable-index l.node.variables.items)) ≡ tests_meet (flags_in l.flags) (map variable_of l.node.variables.items)
