-- The longest front lies between the two numbers, which come nearer.
use Rattle.std.proofs.Common.{◌≤◌, ◌-◌, length}
use Rattle.lus_culprits.proofs.json.longest_front.Given as goal

abbrev pub invariant-loop-least : goal.invariant-loop-least
invariant-loop-least l = (l.least ≤ l.most) × (l.most ≤ length l.bytes)

abbrev pub decreases-loop-least : goal.decreases-loop-least
decreases-loop-least l = l.most - l.least
