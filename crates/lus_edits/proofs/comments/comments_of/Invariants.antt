-- The comments from here on go behind those that are found.
use Rattle.std.proofs.Common.{◌++◌, List, length, map}
use Rattle.lus_syntax.specs.Lexemes.{Text}
use Rattle.lus_edits.specs.Kept.{HasComments}
use Rattle.lus_edits.proofs.comments.comments_of.Given as goal

abbrev pub invariant-loop-rest : goal.invariant-loop-rest
invariant-loop-rest l = (later : List Text) → HasComments l.rest later → HasComments l.fn.gap (map (λ c. c.now) l.comments.items ++ later)

abbrev pub decreases-loop-rest : goal.decreases-loop-rest
decreases-loop-rest l = length l.rest
