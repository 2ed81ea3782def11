-- Where the texts from here on are the same, all are.
use Rattle.std.proofs.Common.{◌≡◌, drop, length, map}
use Rattle.lus_edits.proofs.comments.same_texts.Given as goal

abbrev pub invariant-loop-text : goal.invariant-loop-text
invariant-loop-text l =
    map (λ t. t.now) (drop (length l.yielded) l.left) ≡ map (λ t. t.now) (drop (length l.yielded) l.right) → map (λ t. t.now) l.left ≡ map (λ t. t.now) l.right
