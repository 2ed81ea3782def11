-- Each part is behind those before it.
use Rattle.std.proofs.Common.{append_assoc, rules}
use Rattle.lus_queries.proofs.renames.push_edit.Goals as goal

pub returns : goal.returns
returns c = search (rules, append_assoc)
