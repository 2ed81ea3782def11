-- The flags before this place are lowered.
use Rattle.lus_clocks.specs.Raising.{AreLowered}
use Rattle.lus_clocks.proofs.raising.lower.Given as goal

abbrev pub invariant-loop-place : goal.invariant-loop-place
invariant-loop-place l = AreLowered l.place l.initial.flags.items l.flags.items
