use Rattle.std.proofs.Common.{◌≡◌, ◌++◌, drop}
use Rattle.lus_proposals.specs.Kept.{kept}
use Rattle.lus_proposals.specs.Words.{texts}
use Rattle.lus_proposals.proofs.keeping.kept.Given as goal

abbrev pub invariant-loop-word : goal.invariant-loop-word
invariant-loop-word l =
    texts l.kept.items ++ kept (texts l.drops) (texts l.adds) (texts (drop l.word-index l.words))
    ≡ kept (texts l.drops) (texts l.adds) (texts l.words)
