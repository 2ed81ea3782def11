-- What is left leads to the same spot.
use Rattle.std.proofs.Common.{◌≡◌, ◌+◌, ◌-◌, ◌*◌, ◌<◌, ◌^◌, length}
use Rattle.lus_queries.specs.Spots.{spot_after}
use Rattle.lus_queries.proofs.places.spot_after.Given as goal

abbrev pub invariant-loop-passed : goal.invariant-loop-passed
invariant-loop-passed l =
    (spot_after l.fn.from l.count l.bytes ≡ spot_after l.spot (l.count - l._passed) l.rest)
    × (l.spot.line + length l.rest < 2 ^ 64) × (l.spot.character + 2 * length l.rest < 2 ^ 64)
