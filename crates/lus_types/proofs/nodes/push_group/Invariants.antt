use Rattle.std.proofs.Common.{◌≡◌, ◌++◌, take, drop, map}
use Rattle.std.specs.List.{list_all}
use Rattle.lus_syntax.specs.View.{group_seen, name_seen}
use Rattle.lus_program.specs.View.{variable_of}
use Rattle.lus_source.specs.ScopeView.{scope_of}
use Rattle.lus_types.specs.ByScope.{group_fits, maybe_fits, variable_in}
use Rattle.lus_types.proofs.nodes.push_group.Given as goal

abbrev pub invariant-loop-name : goal.invariant-loop-name
invariant-loop-name l = record {
  meant : map variable_of l.variables.items ≡ map variable_of l.fn.variables.items ++ map (variable_in (scope_of l.scope) (group_seen l.group)) (map name_seen (take l.name-index l.name-items));
  fits : list_all (λ v. maybe_fits (scope_of l.scope) v.test) (map (variable_in (scope_of l.scope) (group_seen l.group)) (map name_seen (drop l.name-index l.name-items))) ≡ group_fits (scope_of l.scope) (group_seen l.group);
}
