use Rattle.std.proofs.Common.{◌≡◌, ◌++◌, map, take}
use Rattle.lus_syntax.specs.View.{group_seen}
use Rattle.std.specs.List.{zip}
use Rattle.lus_source.specs.Tables.{kinds_by}
use Rattle.lus_source.specs.ByTable.{kind_in}
use Rattle.lus_source.proofs.signatures.push_kinds.Given as goal

abbrev pub invariant-loop-group : goal.invariant-loop-group
invariant-loop-group l = l.found.items ≡ l.fn.found.items ++ map (λ e. e.1) (kinds_by (kind_in (zip l.types l.kinds)) (map group_seen (take l.group-index l.groups)))
