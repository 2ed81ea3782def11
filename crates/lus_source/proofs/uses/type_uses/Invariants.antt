use Rattle.std.proofs.Common.{◌≡◌, take, map}
use Rattle.lus_graph.specs.Walks.{uses_of}
use Rattle.lus_syntax.specs.View.{type_seen}
use Rattle.lus_source.specs.Loopless.{definition_uses}
use Rattle.lus_source.proofs.uses.type_uses.Given as goal

abbrev pub invariant-loop-declaration : goal.invariant-loop-declaration
invariant-loop-declaration l = uses_of l.uses.items ≡ map (λ d. definition_uses l.types d.definition) (map type_seen (take l.declaration-index l.declaration-items))
