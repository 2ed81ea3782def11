use Rattle.lus_streams.proofs.CallsResolved.{resolved_calls_have_outputs}
use Rattle.lus_streams.proofs.resolved.calls_have_outputs.Goals as goal

pub returns : goal.returns
returns c = resolved_calls_have_outputs
