-- The variables that are left are set behind those so far.
use Rattle.std.proofs.Common.{◌≡◌, drop}
use Rattle.lus_reference.specs.Placed.{set_targets}
use Rattle.lus_reference.proofs.places.set_targets.Given as goal

abbrev pub invariant-loop-target : goal.invariant-loop-target
invariant-loop-target l =
    set_targets l.places.items (drop l.target l.targets) l.equation l.before.parts l.before.calls l.target
    ≡ set_targets l.initial.places.items l.targets l.equation l.before.parts l.before.calls 0
