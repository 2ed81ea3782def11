-- The cells so far come before those that are left.
use Rattle.std.proofs.Common.{◌≡◌, ◌++◌, drop, map}
use Rattle.lus_test.specs.Filling.{filled_from}
use Rattle.lus_test.proofs.filling.filled_cells.Given as goal

abbrev pub invariant-loop-at : goal.invariant-loop-at
invariant-loop-at l =
    map (λ t. t.items) l.filled.items ++ filled_from l.at (map (λ t. t.now) l.told) (drop l.at l.places) (map (λ t. t.now) l.cells)
    ≡ filled_from 0 (map (λ t. t.now) l.told) l.places (map (λ t. t.now) l.cells)
