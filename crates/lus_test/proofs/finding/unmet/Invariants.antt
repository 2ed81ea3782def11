-- Each cell so far is met.
use Rattle.std.proofs.Common.{◌≡◌, drop, map}
use Rattle.lus_test.specs.Findings.{unmet_from}
use Rattle.lus_test.proofs.finding.unmet.Given as goal

abbrev pub invariant-loop-at : goal.invariant-loop-at
invariant-loop-at l =
    unmet_from 0 (map (λ t. t.now) l.told) l.places (map (λ t. t.now) l.cells)
    ≡ unmet_from l.at (map (λ t. t.now) l.told) (drop l.at l.places) (map (λ t. t.now) l.cells)
