use Rattle.std.proofs.Common.{rules}
use Rattle.lus_diagnostics.specs.Quoting.{quoted}
use Rattle.lus_diagnostics.proofs.quoting.quoted.Goals as goal

pub returns : goal.returns
unfolding quoted
returns c = search rules
