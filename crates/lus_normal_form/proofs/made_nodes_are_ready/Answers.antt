use Rattle.lus_normal_form.proofs.MadeReady.{made_nodes_are_ready}
use Rattle.lus_normal_form.proofs.made_nodes_are_ready.Goals as goal

pub returns : goal.returns
returns c = made_nodes_are_ready
