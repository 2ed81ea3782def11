use Rattle.std.proofs.Common.{◌≡◌, drop, length}
use Rattle.lus_values.proofs.Equalities.{same_all}
use Rattle.lus_values.proofs.equality.+same.Given as goal

abbrev pub invariant-same_fields-loop-a : goal.invariant-same_fields-loop-a
invariant-same_fields-loop-a l =
    same_all (drop (length l.yielded) l.left) (drop (length l.yielded) l.right) ≡ same_all l.left l.right
