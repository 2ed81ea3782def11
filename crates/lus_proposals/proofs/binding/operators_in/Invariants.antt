use Rattle.std.proofs.Common.{◌≡◌, ◌++◌, ◌≤◌, false, drop}
use Rattle.lus_proposals.specs.Binding.{operators}
use Rattle.lus_proposals.specs.Words.{texts}
use Rattle.lus_proposals.proofs.binding.operators_in.Given as goal

abbrev pub invariant-loop-word : goal.invariant-loop-word
invariant-loop-word l =
    (l.depth ≤ l.word-index)
    × (l.found.items ++ operators l.depth l.is_behind l.is_sampled (texts (drop l.word-index l.words))
    ≡ operators 0 false false (texts l.words))
