-- A step faults only where there is no further world.
use Rattle.lus_classes.proofs.Following.{faults_end}
use Rattle.lus_classes.proofs.faults_end_worlds.Goals as goal

pub returns : goal.returns
returns c = faults_end
