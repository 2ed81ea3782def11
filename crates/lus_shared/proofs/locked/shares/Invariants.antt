use Rattle.std.proofs.Common.{◌≡◌, ◌*◌, ◌≤◌, take}
use Rattle.std.specs.List.{sum_by}
use Rattle.lus_shared.specs.declared.locked.LockedSeat.{LockedSeat}
use Rattle.lus_shared.proofs.locked.shares.Given as goal

abbrev pub invariant-loop-seat : goal.invariant-loop-seat
invariant-loop-seat l = (l.sum ≡ sum_by (λ (s : LockedSeat). s.share) (take l.seat-index l.seats)) × (l.sum ≤ l.seat-index * 4294967295)
