use Rattle.std.proofs.Common.{◌≡◌, drop, length}
use Rattle.lus_values.proofs.Alike.{alike_all}
use Rattle.lus_values.proofs.fitting.+alike.Given as goal

abbrev pub invariant-alike_fields-loop-a : goal.invariant-alike_fields-loop-a
invariant-alike_fields-loop-a l =
    alike_all (drop (length l.yielded) l.left) (drop (length l.yielded) l.right) ≡ alike_all l.left l.right
