use Rattle.std.proofs.Common.{◌∙◌}
use Rattle.lus_source.proofs.AppendedNames.{is_in_keys}
use Rattle.lus_source.proofs.names.has.Goals as goal

pub returns : goal.returns
returns c = c.contains.ensures ∙ is_in_keys c.args.name.now c.args.table.now.keys
