use Rattle.std.proofs.Common.{map}
use Rattle.lus_callers.specs.Columns.{IsCutBelow}
use Rattle.lus_callers.proofs.columns.cut.Given as goal

abbrev pub invariant-loop-row : goal.invariant-loop-row
invariant-loop-row g l = IsCutBelow l.row-index (map (λ r. r.items) l.fn.rows.items) (map (λ r. r.items) l.row-items) l.column.items
