-- Reset states stand for the world of no instants.
use Rattle.lus_classes.proofs.Starts.{reset_stands}
use Rattle.lus_classes.proofs.reset_states_stand.Goals as goal

pub returns : goal.returns
returns c = reset_stands
