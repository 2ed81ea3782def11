-- No name before this one stands there.
use Rattle.std.proofs.Common.{take}
use Rattle.std.specs.List.{All}
use Rattle.lus_occurrences.specs.Occurrences.{StandsAt}
use Rattle.lus_occurrences.proofs.names.Names.occurrence_at.Given as goal

abbrev pub invariant-loop-occurrence : goal.invariant-loop-occurrence
invariant-loop-occurrence l = All (λ o. ¬ StandsAt l.self.tokens.items o.token l.byte) (take l.occurrence-index l.self.occurrences.items)
