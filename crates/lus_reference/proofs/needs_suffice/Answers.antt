-- Values rest on what expressions need.
use Rattle.lus_reference.proofs.Needed.{needs_suffice as suffice}
use Rattle.lus_reference.proofs.needs_suffice.Goals as goal

pub returns : goal.returns
returns c = suffice
