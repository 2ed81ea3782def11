use Rattle.std.proofs.Common.{◌≡◌, drop}
use Rattle.lus_proposals.specs.Binding.{rows, strength_in}
use Rattle.lus_proposals.proofs.binding.strength_in.Given as goal

abbrev pub invariant-loop-other : goal.invariant-loop-other
invariant-loop-other l = strength_in l.word (rows (drop l.other-index l.table)) ≡ strength_in l.word (rows l.table)
