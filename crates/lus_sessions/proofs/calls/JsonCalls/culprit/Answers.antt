-- A sentence is one line.
use Rattle.std.proofs.lemmas.Result.{IfOk-weaker}
use Rattle.lus_sessions.proofs.calls.JsonCalls.culprit.Goals as goal

pub returns : goal.returns
returns c = IfOk-weaker c.explain_call.result _ _ (λ t said. said.plain) c.explain_call.ensures
