-- The plain data of the clocks that the code holds.
use Rattle.std.specs.Prelude.{Option, Some, None}
use Rattle.lus_values.specs.declared.test.Test.{Test}
use Rattle.lus_clocks.specs.declared.clock.NewestTest.{NewestTest}

abbrev pub test_in : NewestTest → Test
test_in t = record { variable = t.variable; constructor = t.constructor }

abbrev pub clock_in : Option NewestTest → Option Test
clock_in None = None
clock_in (Some t) = Some (test_in t)
