-- Tests on formals.
use Rattle.std.specs.Prelude.{ℕ, Option, Some, None}
use Rattle.lus_values.specs.declared.test.Test.{Test}
use Rattle.lus_program.specs.Programs.{Expression, variable}

-- a test on a formal as one on the variable that is its argument, none for an argument that is no variable
abbrev pub renamed_one : Expression → ℕ → Option Test
renamed_one (variable x) c = Some (record { variable = x; constructor = c })
renamed_one _ c = None
