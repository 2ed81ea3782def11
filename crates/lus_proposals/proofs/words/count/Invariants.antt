use Rattle.std.proofs.Common.{◌≡◌, ◌+◌, ◌≤◌, drop}
use Rattle.lus_proposals.specs.Words.{texts, times}
use Rattle.lus_proposals.proofs.words.count.Given as goal

abbrev pub invariant-loop-other : goal.invariant-loop-other
invariant-loop-other l =
    (l.count ≤ l.other-index)
    × (l.count + times l.word (texts (drop l.other-index l.words)) ≡ times l.word (texts l.words))
