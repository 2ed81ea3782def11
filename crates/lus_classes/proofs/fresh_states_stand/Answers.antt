-- Fresh states stand for the world of no instants.
use Rattle.lus_classes.proofs.Starts.{fresh_stands}
use Rattle.lus_classes.proofs.fresh_states_stand.Goals as goal

pub returns : goal.returns
returns c = fresh_stands
