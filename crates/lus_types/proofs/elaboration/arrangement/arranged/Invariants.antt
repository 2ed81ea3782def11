use Rattle.std.proofs.Common.{◌≡◌, ℕ, ◌<◌, slice_index}
use Rattle.lus_types.proofs.Arranged.{held, IsMoved}
use Rattle.lus_types.proofs.elaboration.arrangement.arranged.Given as goal

abbrev pub invariant-loop-place : goal.invariant-loop-place
invariant-loop-place l = record {
  moved : IsMoved (held l.fn.places.items l.fn.operands) (held l.places.items l.operands);
  placed : (k : ℕ) → k < l.place → slice_index l.places.items k ≡ k;
}
