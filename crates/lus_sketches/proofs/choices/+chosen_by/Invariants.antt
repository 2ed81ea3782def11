-- One word fewer is left.
use Rattle.std.proofs.Common.{length}
use Rattle.lus_sketches.proofs.choices.+chosen_by.Given as goal

abbrev pub decreases-chosen_by : goal.decreases-chosen_by
decreases-chosen_by l = length l.others.now
