-- The copies so far keep what the first instants keep.
use Rattle.std.proofs.Common.{◌≡◌, map, take}
use Rattle.lus_worlds.specs.Moments.{kept_of}
use Rattle.lus_worlds.proofs.keeping.+keep.Given as goal

abbrev pub invariant-keep_all-loop-moment : goal.invariant-keep_all-loop-moment
invariant-keep_all-loop-moment l = map kept_of l.copies.items ≡ map kept_of (take l.moment-index l.moments)
