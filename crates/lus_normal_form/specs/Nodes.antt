-- A node that is made from another by taking operands and calls out of its right sides, without the program that it is made
-- for: its variables stay, and one more for each part that is taken out is declared with the newest test of the part's clock.
use Rattle.std.specs.Prelude.{◌≡◌, List, [], ◌∷◌, ◌++◌, map, length, Option, Some, None}
use Rattle.lus_values.specs.declared.test.Test.{Test}
use Rattle.lus_program.specs.Programs.{Variable, Node, Program}
use Rattle.lus_streams.specs.Clocks.{Clock, Part, at}
use Rattle.lus_normal_form.specs.Forms.{normal_equations}
use Rattle.lus_normal_form.specs.Parts.{node_taken}

-- the newest test of a clock, none of the base clock
abbrev pub newest_test : Clock → Option Test
newest_test [] = None
newest_test (t ∷ k) = Some t

-- the newest test of a part's clock
abbrev pub part_test : Part → Option Test
part_test (at k e) = newest_test k

-- f' is made from f
pub record IsMadeFrom (p : Program) (f f' : Node) : Type 0 where
  pub inputs : f'.inputs ≡ f.inputs
  pub outputs : f'.outputs ≡ f.outputs
  pub added : List Variable
  pub variables : f'.variables ≡ f.variables ++ added
  pub tests : map (λ v. v.test) added ≡ map part_test (node_taken p f)
  pub equations : f'.equations ≡ normal_equations (length f.variables) f.equations
