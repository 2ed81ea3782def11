-- A step that answers extends the world by an instant.
use Rattle.lus_classes.proofs.Following.{steps_extend}
use Rattle.lus_classes.proofs.steps_extend_worlds.Goals as goal

pub returns : goal.returns
returns c = steps_extend
