use Rattle.std.proofs.Common.{◌≡◌, ℕ, ◌<◌, [], Contains}
use Rattle.lus_graph.specs.Walks.{uses_of, IsSound}
use Rattle.lus_graph.proofs.walk.order_of.Given as goal

abbrev pub invariant-loop-thing : goal.invariant-loop-thing
invariant-loop-thing l = record {
  sound : IsSound (uses_of l.uses) l.walk.marks.items l.walk.path.items l.walk.order.items;
  path : l.walk.path.items ≡ [];
  done : (x : ℕ) → x < l.thing → Contains l.walk.order.items x;
}
