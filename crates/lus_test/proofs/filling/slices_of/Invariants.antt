-- The bytes so far are those of the cells so far.
use Rattle.std.proofs.Common.{◌≡◌, map, take}
use Rattle.lus_test.proofs.filling.slices_of.Given as goal

abbrev pub invariant-loop-cell : goal.invariant-loop-cell
invariant-loop-cell l = map (λ t. t.now) l.slices.items ≡ map (λ t. t.items) (take l.cell-index l.cells)
