-- Where the tokens from here on are the same but for the name, all are.
use Rattle.std.proofs.Common.{drop, length}
use Rattle.lus_syntax.specs.View.{tokens_seen}
use Rattle.lus_edits.specs.Kept.{AreRenamed, kinds}
use Rattle.lus_edits.proofs.kinds.differ_by_name.Given as goal

abbrev pub invariant-loop-token : goal.invariant-loop-token
invariant-loop-token l =
    AreRenamed l.old l.new (kinds (tokens_seen (drop (length l.yielded) l.left))) (kinds (tokens_seen (drop (length l.yielded) l.right)))
    → AreRenamed l.old l.new (kinds (tokens_seen l.left)) (kinds (tokens_seen l.right))
