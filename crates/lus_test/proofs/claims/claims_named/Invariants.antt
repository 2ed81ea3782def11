-- Each that was found is a claim of this name.
use Rattle.std.proofs.Common.{All}
use Rattle.std.specs.Arc.{arc_value}
use Rattle.lus_cli.specs.CodeSpecs.Codes.{program_of}
use Rattle.lus_test.specs.Named.{IsClaim}
use Rattle.lus_test.proofs.claims.claims_named.Given as goal

abbrev pub invariant-loop-number : goal.invariant-loop-number
invariant-loop-number l = All (IsClaim (program_of (arc_value l.program)) l.name) l.found.items
