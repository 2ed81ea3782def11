-- The inputs so far are given.
use Rattle.std.proofs.Common.{ℕ, ◌<◌, map, true}
use Rattle.lus_values.specs.View.{entry_of}
use Rattle.lus_program.specs.View.{node_of}
use Rattle.lus_worlds.specs.Following.{IsGiven}
use Rattle.lus_worlds.proofs.following.all_given.Given as goal

abbrev pub invariant-loop-variable : goal.invariant-loop-variable
invariant-loop-variable l = (x : ℕ) → x < l.variable → IsGiven true (map entry_of l.inputs) (node_of l.node) x
