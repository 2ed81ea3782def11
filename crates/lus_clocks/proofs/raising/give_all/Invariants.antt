-- The equations from here on have given their flags, the last first.
use Rattle.std.proofs.Common.{◌≡◌, ◌≤◌, length, drop}
use Rattle.lus_clocks.specs.Raising.{flags_in, all_given}
use Rattle.lus_clocks.proofs.raising.give_all.Given as goal

abbrev pub invariant-loop-left : goal.invariant-loop-left
invariant-loop-left l = (l.left ≤ length l.equations) × (l.next.items ≡ all_given (flags_in l.flags) (drop l.left l.equations) l.initial.next.items)

abbrev pub decreases-loop-left : goal.decreases-loop-left
decreases-loop-left l = l.left
