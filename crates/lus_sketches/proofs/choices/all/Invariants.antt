-- Those so far are those of the variables so far.
use Rattle.std.proofs.Common.{◌≡◌, map, take}
use Rattle.lus_program.specs.View.{variable_of}
use Rattle.lus_sketches.specs.Paths.{all_from, chosen_seen}
use Rattle.lus_sketches.proofs.choices.all.Given as goal

abbrev pub invariant-loop-place : goal.invariant-loop-place
invariant-loop-place l = map chosen_seen l.all.items ≡ all_from 0 (map variable_of (take l.place l.variables))
