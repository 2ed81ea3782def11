-- One entry more.
use Rattle.lus_values.specs.View.{entry_of}
use Rattle.lus_worlds.proofs.Among.{map_set}
use Rattle.lus_worlds.proofs.finding.Found.set.Goals as goal

pub returns-in-Some-clause-row : goal.returns-in-Some-clause-row
returns-in-Some-clause-row c = map_set entry_of c.args.self.now.row.items c.args.variable c.args.entry
