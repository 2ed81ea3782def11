use Rattle.std.proofs.Common.{◌≡◌, drop}
use Rattle.lus_proposals.specs.Kept.{are_balanced}
use Rattle.lus_proposals.specs.Words.{texts}
use Rattle.lus_proposals.proofs.keeping.are_balanced.Given as goal

abbrev pub invariant-loop-word : goal.invariant-loop-word
invariant-loop-word l =
    are_balanced (texts l.source) (texts l.proposal) (texts l.drops) (texts l.adds)
    (texts (drop l.word-index l.words))
    ≡ are_balanced (texts l.source) (texts l.proposal) (texts l.drops) (texts l.adds)
    (texts l.words)
