-- A step is a row that is tried.
use Rattle.lus_machine.proofs.Replied.{row_outputs}
use Rattle.lus_machine.proofs.answers.step_once.Goals as goal

pub returns-in-Ok-clause-ok : goal.returns-in-Ok-clause-ok
returns-in-Ok-clause-ok c = row_outputs c.args.code.now c.args.object.now c.args.inputs.now c.in-Ok.outputs c.step_row.new.object c.in-Ok.ensures.ok
