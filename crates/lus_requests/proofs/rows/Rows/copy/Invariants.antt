-- The copy has the rows so far.
use Rattle.std.proofs.Common.{◌≡◌, take}
use Rattle.lus_requests.proofs.rows.Rows.copy.Given as goal

abbrev pub invariant-loop-row : goal.invariant-loop-row
invariant-loop-row l = l.items.items ≡ take l.row-index l.row-items
