-- The equations that are left are gone through behind those so far.
use Rattle.std.proofs.Common.{◌≡◌, drop, length}
use Rattle.lus_reference.specs.Placed.{blank}
use Rattle.lus_reference.proofs.Placed.{set_equations}
use Rattle.lus_reference.proofs.places.places_of.Given as goal

abbrev pub invariant-loop-place : goal.invariant-loop-place
invariant-loop-place l =
    let qs = l.node.equations.items in
    set_equations l.places.items (drop l.place qs) l.place l.before.parts l.before.calls ≡ set_equations (blank (length l.node.variables.items)) qs 0 0 0
