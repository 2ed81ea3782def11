use Rattle.std.proofs.Common.{◌≡◌, map, take}
use Rattle.lus_translation.proofs.calls.tests_of.Given as goal

abbrev pub invariant-loop-variable : goal.invariant-loop-variable
invariant-loop-variable l = l.tests.items ≡ map (λ v. v.test) (take l.variable-index l.node.variables.items)
