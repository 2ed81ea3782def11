use Rattle.std.proofs.Common.{◌≡◌, drop, length, map}
use Rattle.lus_program.specs.View.{declared_of}
use Rattle.lus_same.specs.Nameless.{nameless_type}
use Rattle.lus_same.proofs.types.same_types.Given as goal

abbrev pub invariant-loop-item : goal.invariant-loop-item
invariant-loop-item l =
    map nameless_type (map declared_of (drop (length l.yielded) l.left)) ≡ map nameless_type (map declared_of (drop (length l.yielded) l.right)) → map nameless_type (map declared_of l.left) ≡ map nameless_type (map declared_of l.right)
