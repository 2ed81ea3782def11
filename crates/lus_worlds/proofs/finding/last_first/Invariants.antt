-- The numbers so far and those that are left are all.
use Rattle.std.proofs.Common.{◌≡◌, ◌-◌, ◌++◌}
use Rattle.lus_worlds.specs.Turns.{below}
use Rattle.lus_worlds.proofs.finding.last_first.Given as goal

abbrev pub invariant-loop-behind : goal.invariant-loop-behind
invariant-loop-behind l = l.calls.items ++ below (l.count - l.behind) ≡ below l.count
