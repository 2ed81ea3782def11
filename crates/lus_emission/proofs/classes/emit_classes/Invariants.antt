use Rattle.std.proofs.Common.{ℕ, List, take}
use Rattle.lus_emission.specs.Sources.{KeepTo}
use Rattle.lus_emission.proofs.Underway.{IsUnderway}
use Rattle.lus_emission.proofs.classes.emit_classes.Given as goal

abbrev pub invariant-loop-place : goal.invariant-loop-place
invariant-loop-place l =
    (counts : List ℕ) → KeepTo counts l.classes → IsUnderway l.classes counts l.initial.parts l.emitted.items l.parts (take l.place-index l.order)
