use Rattle.std.proofs.Common.{take}
use Rattle.lus_leaves.specs.Leaves.{rows_leaves}
use Rattle.lus_leaves.specs.Writing.{IsWritten}
use Rattle.lus_leaves.proofs.writing.write_rows.Given as goal

abbrev pub invariant-loop-row : goal.invariant-loop-row
invariant-loop-row l = IsWritten l.initial.leaves 0 (rows_leaves (take l.row-index l.rows)) l.leaves l.at
