-- The rows so far and those of the rest are those of all.
use Rattle.std.proofs.Common.{◌≡◌, ◌++◌, drop, map}
use Rattle.lus_worlds.specs.Moments.{row_in}
use Rattle.lus_worlds.proofs.moment.rows_of.Given as goal

abbrev pub invariant-loop-moment : goal.invariant-loop-moment
invariant-loop-moment l = l.rows.items ++ map row_in (drop l.moment-index l.moments) ≡ map row_in l.moments
