use Rattle.std.proofs.Common.{◌≤◌, map, take}
use Rattle.lus_syntax.specs.View.{node_seen, type_seen}
use Rattle.lus_values.specs.Lists.{Each}
use Rattle.lus_source.specs.Sized.{DefinitionCounted, variable_count}
use Rattle.lus_source.specs.Tables.{groups}
use Rattle.lus_source.proofs.counts.counts_fit.Given as goal

abbrev pub invariant-loop-declaration : goal.invariant-loop-declaration
invariant-loop-declaration l = Each (λ d. DefinitionCounted d.definition) (map type_seen (take l.declaration-index l.declaration-items))

abbrev pub invariant-loop-node : goal.invariant-loop-node
invariant-loop-node l = Each (λ f. variable_count (groups f) ≤ 1000) (map node_seen (take l.node-index l.node-items))
