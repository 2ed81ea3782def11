use Rattle.std.proofs.Common.{◌≡◌, ◌≤◌, map, vec_capacity, vec_len}
use Rattle.std.specs.List.{All, range_with_len}
use Rattle.lus_shared.specs.declared.locked.LockedSeat.{LockedSeat}
use Rattle.lus_shared.proofs.locked.LockedNodeShared.open.Given as goal

abbrev pub invariant-loop-number : goal.invariant-loop-number
invariant-loop-number l = (vec_len l.seats ≡ l.number) × (l.callers ≤ vec_capacity l.seats) × (map (λ (s : LockedSeat). s.number) l.seats.items ≡ range_with_len 0 l.number) × All (λ (s : LockedSeat). s.share ≡ 0) l.seats.items
