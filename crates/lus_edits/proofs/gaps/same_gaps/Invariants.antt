-- Where the comments from here on are the same, all are.
use Rattle.std.proofs.Common.{drop, length}
use Rattle.lus_syntax.specs.View.{tokens_seen}
use Rattle.lus_edits.specs.Kept.{KeepComments}
use Rattle.lus_edits.proofs.gaps.same_gaps.Given as goal

abbrev pub invariant-loop-token : goal.invariant-loop-token
invariant-loop-token l =
    KeepComments l.from (tokens_seen (drop (length l.yielded) l.before)) l.old l.new_from (tokens_seen (drop (length l.yielded) l.after)) l.new
    → KeepComments 0 (tokens_seen l.before) l.old 0 (tokens_seen l.after) l.new
