-- Where the tokens from here on are the same, all are.
use Rattle.std.proofs.Common.{◌≡◌, drop, length}
use Rattle.lus_syntax.specs.View.{tokens_seen}
use Rattle.lus_edits.specs.Kept.{kinds}
use Rattle.lus_edits.proofs.kinds.same_kinds.Given as goal

abbrev pub invariant-loop-token : goal.invariant-loop-token
invariant-loop-token l =
    kinds (tokens_seen (drop (length l.yielded) l.left)) ≡ kinds (tokens_seen (drop (length l.yielded) l.right))
    → kinds (tokens_seen l.left) ≡ kinds (tokens_seen l.right)
