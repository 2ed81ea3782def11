use Rattle.lus_streams.proofs.NeedsResolved.{resolved_needs_are_variables}
use Rattle.lus_streams.proofs.resolved.needs_variables.Goals as goal

pub returns : goal.returns
returns c = resolved_needs_are_variables
