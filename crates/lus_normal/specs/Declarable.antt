-- Parts for which the code can declare a variable.
use Rattle.std.specs.Prelude.{◌≡◌, ◌^◌, ◌<◌, List, Option, Some, None}
use Rattle.lus_values.specs.Lists.{Each}
use Rattle.lus_values.specs.declared.test.Test.{Test}
use Rattle.lus_program.specs.declared.types.Kind.{Kind}
use Rattle.lus_program.specs.Programs.{Node, Program}
use Rattle.lus_program.specs.Resolved.{kind_in}
use Rattle.lus_normal.specs.Forms.{Taken}

-- the numbers of a test, if there is one, can be stored as `u32`
abbrev pub Fits : Option Test → Type 0
Fits None = Unit {0}
Fits (Some t) = (t.variable < 2 ^ 32) × (t.constructor < 2 ^ 32)

-- a part has a type, and its test can be stored
pub record IsDeclarable (p : Program) (f : Node) (t : Taken) : Type 0 where
  pub typed : (k : Kind) × (kind_in p f t.operand ≡ Some k)
  pub fits : Fits t.test

-- each part that is taken out
abbrev pub AreDeclarable : Program → Node → List Taken → Type 0
AreDeclarable p f = Each (IsDeclarable p f)
