-- The instants so far are all there.
use Rattle.std.proofs.Common.{◌≡◌, Some, map}
use Rattle.lus_worlds.proofs.finding.all_called.Given as goal

abbrev pub invariant-loop-moment : goal.invariant-loop-moment
invariant-loop-moment l = map (λ m. Some m) l.all.items ≡ l.yielded
