use Rattle.std.proofs.Common.{◌∙◌, ap, ap₂, map}
use Rattle.lus_translation.specs.Firsts.{first_seen, with_one}
use Rattle.lus_translation.proofs.FirstTables.{one_added}
use Rattle.lus_translation.proofs.firsts.Firsts.add.Goals as goal

pub returns : goal.returns
returns c = ap (map first_seen) c.in_ok-insert.ensures.keys ∙ one_added c.self.inside.tests.keys c.key_of.result ∙ ap₂ with_one c.self.view_is c.key_of.ensures
