use Rattle.std.proofs.Common.{◌≡◌, drop, length, map}
use Rattle.lus_program.specs.View.{variable_of}
use Rattle.lus_same.specs.Nameless.{nameless_variable}
use Rattle.lus_same.proofs.nodes.same_variables.Given as goal

abbrev pub invariant-loop-variable : goal.invariant-loop-variable
invariant-loop-variable l =
    map nameless_variable (map variable_of (drop (length l.yielded) l.left)) ≡ map nameless_variable (map variable_of (drop (length l.yielded) l.right)) → map nameless_variable (map variable_of l.left) ≡ map nameless_variable (map variable_of l.right)
