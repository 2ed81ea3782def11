use Rattle.std.proofs.Common.{◌≡◌, drop, length}
use Rattle.lus_proposals.specs.Kept.{are_same}
use Rattle.lus_proposals.specs.Words.{texts}
use Rattle.lus_proposals.proofs.keeping.are_same.Given as goal

abbrev pub invariant-loop-word : goal.invariant-loop-word
invariant-loop-word l =
    are_same (texts (drop (length l.yielded) l.left)) (texts (drop (length l.yielded) l.right)) ≡ are_same (texts l.left) (texts l.right)
