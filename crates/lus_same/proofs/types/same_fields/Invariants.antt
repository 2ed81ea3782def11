use Rattle.std.proofs.Common.{◌≡◌, drop, length, map}
use Rattle.lus_program.specs.View.{field_of}
use Rattle.lus_same.specs.Nameless.{nameless_field}
use Rattle.lus_same.proofs.types.same_fields.Given as goal

abbrev pub invariant-loop-field : goal.invariant-loop-field
invariant-loop-field l =
    map nameless_field (map field_of (drop (length l.yielded) l.left)) ≡ map nameless_field (map field_of (drop (length l.yielded) l.right)) → map nameless_field (map field_of l.left) ≡ map nameless_field (map field_of l.right)
