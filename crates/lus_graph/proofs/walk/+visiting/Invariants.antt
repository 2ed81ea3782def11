use Rattle.std.proofs.Common.{◌≡◌, ℕ, ◌+◌, ◌*◌, ◌<◌, [], ◌∷◌, ◌++◌, length, take, Contains}
use Rattle.lus_graph.specs.Ways.{used}
use Rattle.lus_graph.specs.Walks.{uses_of, IsSound, new_count}
use Rattle.lus_graph.proofs.walk.+visiting.Given as goal

abbrev pub decreases-visit : goal.decreases-visit
decreases-visit l = 2 * new_count l.walk.now.marks.items

abbrev pub decreases-meet : goal.decreases-meet
decreases-meet l = 2 * new_count l.walk.now.marks.items + 1

abbrev pub invariant-visit-loop-place : goal.invariant-visit-loop-place
invariant-visit-loop-place l = record {
  sound : IsSound (uses_of l.uses) l.walk.marks.items l.walk.path.items l.walk.order.items;
  path : l.walk.path.items ≡ l.fn.walk.path.items ++ l.thing ∷ [];
  items : l.place-items ≡ used (uses_of l.uses) l.thing;
  done : (y : ℕ) → y < length l.uses → Contains (take l.place-index l.place-items) y → Contains l.walk.order.items y;
  kept : (x : ℕ) → Contains l.fn.walk.order.items x → Contains l.walk.order.items x;
  fewer : new_count l.walk.marks.items < new_count l.fn.walk.marks.items;
}
