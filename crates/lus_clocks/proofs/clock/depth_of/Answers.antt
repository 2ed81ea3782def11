-- A clock has no more tests than its node has variables.
use Rattle.std.proofs.Common.{◌≤◌, ℕ, zero, suc, List, [], ◌∷◌, Option, Some, None, map, length, inl, ap, arith}
use Rattle.std.proofs.Math.ListN.{length-map}
use Rattle.lus_values.specs.Lists.{item}
use Rattle.lus_values.specs.declared.test.Test.{Test}
use Rattle.lus_program.specs.Programs.{Variable, no_variable}
use Rattle.lus_program.specs.View.{variable_of}
use Rattle.lus_streams.specs.Clocks.{chain}
use Rattle.lus_clocks.proofs.clock.depth_of.Goals as goal

one_more : (n : ℕ) (vs : List Variable) (o : Option Test) → ((x : ℕ) → length (chain n vs x) ≤ n) → length {A = Test} (elim o [ None ↦ [] | Some t ↦ t ∷ chain n vs t.variable ]) ≤ suc n
one_more n vs None ih = omega arith
one_more n vs (Some t) ih = omega (arith, ih t.variable)

short : (n : ℕ) (vs : List Variable) (x : ℕ) → length (chain n vs x) ≤ n
short zero vs x = omega arith
short (suc n) vs x = one_more n vs (item no_variable vs x).test (short n vs)

pub count-requires-clause-fits : goal.count-requires-clause-fits
count-requires-clause-fits c =
    let vs : List Variable = map variable_of c.args.variables.now in
    inl (omega (arith, short (length vs) vs c.args.variable, ap length c.tests_of.ensures, length-map c.args.variables.now variable_of))
