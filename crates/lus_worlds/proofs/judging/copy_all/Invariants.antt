-- The copies so far are of the first values.
use Rattle.std.proofs.Common.{◌≡◌, map, take}
use Rattle.lus_values.specs.View.{value_of}
use Rattle.lus_worlds.proofs.judging.copy_all.Given as goal

abbrev pub invariant-loop-value : goal.invariant-loop-value
invariant-loop-value l = map value_of l.copies.items ≡ map value_of (take l.value-index l.values)
