-- A restore goes back to what had been lived through at its save.
use Rattle.lus_history.proofs.GoingBack.{restores_go_back}
use Rattle.lus_history.proofs.restores_go_back.Goals as goal

pub returns : goal.returns
returns c = restores_go_back
