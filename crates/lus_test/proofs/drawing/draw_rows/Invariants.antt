-- There are as many rows as were drawn.
use Rattle.std.proofs.Common.{◌≡◌, length}
use Rattle.lus_test.proofs.drawing.draw_rows.Given as goal

abbrev pub invariant-loop-row : goal.invariant-loop-row
invariant-loop-row g l = length l.rows.items ≡ l._row
