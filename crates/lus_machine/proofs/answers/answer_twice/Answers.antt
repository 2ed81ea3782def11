-- A reset is answered at once, and each other request by a function of its own.
use Rattle.lus_machine.proofs.Replied.{resets}
use Rattle.lus_machine.proofs.answers.answer_twice.Goals as goal

pub returns-in-Reset-clause-ok : goal.returns-in-Reset-clause-ok
returns-in-Reset-clause-ok c =
    rw c.in-Reset.is (rw c.done.ensures.first (resets c.args.code.now c.args.object.now c.args.slots.now.items c.reset.new.self c.reset.ensures.back))
