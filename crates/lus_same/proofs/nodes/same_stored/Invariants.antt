use Rattle.std.proofs.Common.{◌≡◌, drop, length, map}
use Rattle.lus_same.specs.Stored.{stored}
use Rattle.lus_same.proofs.nodes.same_stored.Given as goal

abbrev pub invariant-loop-equation : goal.invariant-loop-equation
invariant-loop-equation l =
    map stored (drop (length l.yielded) l.left) ≡ map stored (drop (length l.yielded) l.right) → map stored l.left ≡ map stored l.right
