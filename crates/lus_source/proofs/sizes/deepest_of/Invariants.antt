use Rattle.std.proofs.Common.{◌≡◌, take}
use Rattle.lus_values.specs.Lists.{item}
use Rattle.lus_source.specs.Sized.{greatest}
use Rattle.lus_source.proofs.sizes.deepest_of.Given as goal

abbrev pub invariant-loop-place : goal.invariant-loop-place
invariant-loop-place l = l.deepest ≡ greatest (item 1 l.depths) (take l.place-index l.used)
