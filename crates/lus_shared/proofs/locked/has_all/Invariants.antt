use Rattle.std.proofs.Common.{◌≡◌, ◌==◌, ◌<◌, ℕ}
use Rattle.std.specs.List.{count_by}
use Rattle.lus_shared.specs.declared.locked.LockedSeat.{LockedSeat}
use Rattle.lus_shared.proofs.locked.has_all.Given as goal

abbrev pub invariant-loop-number : goal.invariant-loop-number
invariant-loop-number l = (k : ℕ) → k < l.number → count_by (λ (s : LockedSeat). s.number == k) l.seats ≡ 1
