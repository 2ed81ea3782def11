-- The flags so far are false.
use Rattle.lus_clocks.specs.Raising.{AreFalse}
use Rattle.lus_clocks.proofs.raising.all_false.Given as goal

abbrev pub invariant-loop-flag : goal.invariant-loop-flag
invariant-loop-flag l = AreFalse l._flag l.flags.items
