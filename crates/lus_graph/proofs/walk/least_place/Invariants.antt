use Rattle.std.proofs.Common.{ℕ, ◌<◌, ◌≤◌, length, get_or}
use Rattle.lus_graph.proofs.walk.least_place.Given as goal

abbrev pub invariant-loop-place : goal.invariant-loop-place
invariant-loop-place l = record {
  within : l.least < length l.items;
  least : (k : ℕ) → k < l.place → get_or l.items l.least 0 ≤ get_or l.items k 0;
}
