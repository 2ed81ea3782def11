-- The rest passes where the whole does.
use Rattle.std.proofs.Common.{◌≡◌, drop, map}
use Rattle.std.specs.List.{list_all}
use Rattle.lus_syntax.specs.View.{equation_seen}
use Rattle.lus_source.specs.Named.{has_left}
use Rattle.lus_source.proofs.left.without_left.Given as goal

abbrev pub invariant-loop-equation : goal.invariant-loop-equation
invariant-loop-equation l = list_all has_left (map equation_seen (drop l.equation-index l.node.equations.items)) ≡ list_all has_left (map equation_seen l.node.equations.items)
