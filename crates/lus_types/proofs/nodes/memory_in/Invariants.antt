use Rattle.std.proofs.Common.{◌≡◌, drop, map}
use Rattle.std.specs.List.{list_all}
use Rattle.lus_syntax.specs.View.{equation_seen}
use Rattle.lus_source.specs.WellTyped.{is_pure}
use Rattle.lus_source.specs.ScopeView.{scope_of}
use Rattle.lus_types.proofs.nodes.memory_in.Given as goal

abbrev pub invariant-loop-source : goal.invariant-loop-source
invariant-loop-source l = list_all (λ q. is_pure (scope_of l.scope) q.right) (map equation_seen (drop l.source-index l.sources)) ≡ list_all (λ q. is_pure (scope_of l.scope) q.right) (map equation_seen l.sources)
