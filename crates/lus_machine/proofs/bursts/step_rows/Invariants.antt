-- The object is behind the rows so far, and these are their outputs.
use Rattle.std.proofs.Common.{take}
use Rattle.lus_machine.specs.Bursts.{GoesThrough}
use Rattle.lus_machine.proofs.bursts.step_rows.Given as goal

abbrev pub invariant-loop-row : goal.invariant-loop-row
invariant-loop-row l = GoesThrough l.code l.fn.object (take l.row-index l.rows) l.outputs.items l.object
