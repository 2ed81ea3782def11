-- The entries so far are those of the picks so far.
use Rattle.std.proofs.Common.{◌≡◌, map, take}
use Rattle.lus_values.specs.View.{entry_of}
use Rattle.lus_worlds.specs.Moments.{instant_of}
use Rattle.lus_windows.specs.Picks.{picked_at}
use Rattle.lus_windows.proofs.picks.pick_row.Given as goal

abbrev pub invariant-loop-picked : goal.invariant-loop-picked
invariant-loop-picked l = map entry_of l.row.items ≡ map (picked_at (instant_of l.moment)) (take l.picked-index l.picks)
