-- The picks so far come before those of what is left.
use Rattle.std.proofs.Common.{◌≡◌, ◌++◌, map}
use Rattle.std.specs.Vec.Iter.{into_iter_items}
use Rattle.lus_sketches.specs.Paths.{chosen_seen}
use Rattle.lus_sketches.specs.Signals.{pick_seen}
use Rattle.lus_sketches.proofs.signals.picks.Given as goal

abbrev pub invariant-loop-one : goal.invariant-loop-one
invariant-loop-one l =
    map pick_seen l.picks.items ++ map (λ c. c.1) (map chosen_seen (into_iter_items l.one-iterator))
    ≡ map (λ c. c.1) (map chosen_seen l.fn.chosen.items)
