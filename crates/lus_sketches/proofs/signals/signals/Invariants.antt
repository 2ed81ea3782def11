-- The signals so far are those of the variables so far.
use Rattle.std.proofs.Common.{◌≡◌, map, take}
use Rattle.lus_traces.specs.Traces.{name_of}
use Rattle.lus_sketches.specs.Paths.{chosen_seen}
use Rattle.lus_sketches.proofs.signals.signals.Given as goal

abbrev pub invariant-loop-one : goal.invariant-loop-one
invariant-loop-one l = map name_of l.signals.items ≡ map (λ c. c.0) (map chosen_seen (take l.one-index l.chosen))
