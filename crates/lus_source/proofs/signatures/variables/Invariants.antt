use Rattle.std.proofs.Common.{◌≡◌, map, take}
use Rattle.std.specs.List.{zip}
use Rattle.lus_syntax.specs.View.{node_seen}
use Rattle.lus_source.specs.ScopeView.{kinds_seen}
use Rattle.lus_source.specs.Tables.{groups, kinds_by}
use Rattle.lus_source.specs.ByTable.{kind_in}
use Rattle.lus_source.proofs.signatures.variables.Given as goal

abbrev pub invariant-loop-node : goal.invariant-loop-node
invariant-loop-node l =
    kinds_seen l.all.items ≡ map (λ f. map (λ e. e.1) (kinds_by (kind_in (zip l.types l.kinds)) (groups f))) (map node_seen (take l.node-index l.nodes))
