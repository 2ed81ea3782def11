-- The places so far are those of the names so far.
use Rattle.std.proofs.Common.{◌≡◌, map, string_bytes, take}
use Rattle.lus_scripts.specs.Scripts.{place_of}
use Rattle.lus_test.proofs.finding.places_of.Given as goal

abbrev pub invariant-loop-name : goal.invariant-loop-name
invariant-loop-name l =
    l.places.items ≡ map (place_of (map string_bytes l.columns)) (map (λ t. t.now) (take l.name-index l.name-items))
