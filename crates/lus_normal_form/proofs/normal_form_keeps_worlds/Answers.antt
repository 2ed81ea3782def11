-- A normal form has its source's worlds and no others.
use Rattle.lus_normal_form.proofs.KeepsWorlds.{normal_keeps_worlds}
use Rattle.lus_normal_form.proofs.normal_form_keeps_worlds.Goals as goal

pub returns : goal.returns
returns c = normal_keeps_worlds
