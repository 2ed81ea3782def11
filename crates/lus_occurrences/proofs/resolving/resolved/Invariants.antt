use Rattle.std.specs.List.{All}
use Rattle.lus_occurrences.specs.Occurrences.{StandsFor}
use Rattle.lus_occurrences.proofs.resolving.resolved.Given as goal

abbrev pub invariant-loop-place : goal.invariant-loop-place
invariant-loop-place l = All (StandsFor l.tokens l.declarations) l.occurrences.items
