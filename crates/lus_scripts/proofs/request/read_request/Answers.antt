-- What is read of a text is what its value says.
use Rattle.lus_scripts.proofs.RequestLists.{request_accepted, request_no_json, request_refused}
use Rattle.lus_scripts.proofs.request.read_request.Goals as goal

pub returns-in-Ok-clause-ok : goal.returns-in-Ok-clause-ok
returns-in-Ok-clause-ok c = request_accepted _ _ _ _ _ _ _ c.in-Ok.ensures.ok c.node_at.ensures c.read_alone.ensures.ok

pub returns-in-Ok-clause-refused : goal.returns-in-Ok-clause-refused
returns-in-Ok-clause-refused c = request_refused _ _ _ _ _ _ _ c.in-Ok.ensures.ok c.node_at.ensures c.read_alone.ensures.refused

pub returns-in-Err-clause-refused : goal.returns-in-Err-clause-refused
returns-in-Err-clause-refused c = request_no_json _ _ _ _ _ c.in-Err.ensures.refused
