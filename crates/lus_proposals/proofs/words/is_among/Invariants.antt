use Rattle.std.proofs.Common.{◌≡◌, drop}
use Rattle.lus_proposals.specs.Words.{is_among, texts}
use Rattle.lus_proposals.proofs.words.is_among.Given as goal

abbrev pub invariant-loop-other : goal.invariant-loop-other
invariant-loop-other l = is_among l.word (texts (drop l.other-index l.words)) ≡ is_among l.word (texts l.words)
