-- One more name has its place.
use Rattle.std.proofs.Common.{Bor, List, ℕ, arith, map, string_bytes}
use Rattle.lus_scripts.specs.Scripts.{place_of}
use Rattle.lus_test.proofs.Steps.{mapped_more}
use Rattle.lus_test.proofs.finding.places_of.Goals as goal

pub loop-name-preserved : goal.loop-name-preserved
loop-name-preserved c =
    mapped_more (place_of (map string_bytes c.args.columns.now)) (λ (t : Bor (List ℕ)). t.now) c.deref-name-items.result.now c.loop-name.name-index
    _ _ _ _ (omega arith) c.loop-name.invariant c.column_of.ensures c.in_ok-push.ensures.items
