use Rattle.std.proofs.Common.{◌≡◌, ◌++◌, take, drop, map, flat_map}
use Rattle.std.specs.List.{list_all}
use Rattle.lus_syntax.specs.View.{group_seen}
use Rattle.lus_program.specs.View.{variable_of}
use Rattle.lus_source.specs.ScopeView.{scope_of}
use Rattle.lus_types.specs.ByScope.{group_fits, variables_in}
use Rattle.lus_types.proofs.nodes.push_groups.Given as goal

abbrev pub invariant-loop-group : goal.invariant-loop-group
invariant-loop-group l = record {
  meant : map variable_of l.variables.items ≡ map variable_of l.fn.variables.items ++ flat_map (variables_in (scope_of l.scope)) (map group_seen (take l.group-index l.groups));
  fit : list_all (group_fits (scope_of l.scope)) (map group_seen (drop l.group-index l.groups)) ≡ list_all (group_fits (scope_of l.scope)) (map group_seen l.groups);
}
