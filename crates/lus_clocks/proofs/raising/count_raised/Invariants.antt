-- Those that are counted and those that are left are all.
use Rattle.std.proofs.Common.{◌≡◌, ◌+◌, ◌≤◌, drop}
use Rattle.lus_clocks.specs.Raising.{raised_count}
use Rattle.lus_clocks.proofs.raising.count_raised.Given as goal

abbrev pub invariant-loop-flag : goal.invariant-loop-flag
invariant-loop-flag l = (l.count ≤ l.flag-index) × (l.count + raised_count (drop l.flag-index l.flags) ≡ raised_count l.flags)
