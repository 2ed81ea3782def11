-- A copy of the object is written into the slot.
use Rattle.std.proofs.Common.{arith}
use Rattle.lus_machine.proofs.Replied.{save_none, saves}
use Rattle.lus_machine.proofs.answers.save.Goals as goal

pub returns-then-slot-ge-SLOTS-clause-ok : goal.returns-then-slot-ge-SLOTS-clause-ok
returns-then-slot-ge-SLOTS-clause-ok c = λ code. rw c.refused.ensures.first (save_none code c.args.object.now c.args.slots.now.items c.args.slot (omega (arith, c.if-slot-ge-SLOTS.true)))

pub returns-clause-ok : goal.returns-clause-ok
returns-clause-ok c = λ code. rw c.done.ensures.first (saves code c.args.object.now c.args.slots.now.items c.args.slot c.in_ok-saved.saved (omega (arith, c.if-slot-ge-SLOTS.false)) c.in_ok-saved.ensures)
