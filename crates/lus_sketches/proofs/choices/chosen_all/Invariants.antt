-- Those so far are those of the names so far.
use Rattle.std.proofs.Common.{map, take}
use Rattle.lus_program.specs.View.{program_seen}
use Rattle.lus_sketches.specs.Paths.{chosen_seen}
use Rattle.lus_sketches.specs.Signals.{Choose}
use Rattle.lus_sketches.proofs.choices.chosen_all.Given as goal

abbrev pub invariant-loop-place : goal.invariant-loop-place
invariant-loop-place l = Choose (program_seen l.program) l.node (map (λ t. t.now) (take l.place l.name-items)) (map chosen_seen l.all.items)
