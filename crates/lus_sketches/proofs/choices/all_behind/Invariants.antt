-- Those so far come before those of what is left.
use Rattle.std.proofs.Common.{◌≡◌, ◌++◌, map}
use Rattle.std.specs.Vec.Iter.{into_iter_items}
use Rattle.lus_sketches.specs.Paths.{chosen_seen, under}
use Rattle.lus_sketches.proofs.choices.all_behind.Given as goal

abbrev pub invariant-loop-one : goal.invariant-loop-one
invariant-loop-one l =
    map chosen_seen l.all.items ++ map (under l.step l.call) (map chosen_seen (into_iter_items l.one-iterator))
    ≡ map (under l.step l.call) (map chosen_seen l.fn.chosen.items)
