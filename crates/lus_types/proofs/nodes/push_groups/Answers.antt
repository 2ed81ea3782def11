use Rattle.std.proofs.Common.{◌∙◌, ◌++◌, ap, map, flat_map}
use Rattle.std.proofs.lemmas.List.{take_all}
use Rattle.lus_syntax.specs.View.{group_seen}
use Rattle.lus_program.specs.View.{variable_of}
use Rattle.lus_source.specs.ScopeView.{scope_of}
use Rattle.lus_types.specs.ByScope.{variables_in}
use Rattle.lus_types.proofs.Groups.{length-grown}
use Rattle.lus_types.proofs.nodes.push_groups.Goals as goal

pub returns-clause-counted : goal.returns-clause-counted
returns-clause-counted c =
    let s = scope_of c.args.scope.now in
    let old = c.args.variables.now.items in
    length-grown s old c.loop-group.variables.items (map group_seen c.args.groups.now)
    (c.loop-group.invariant.meant ∙ ap (λ gs. map variable_of old ++ flat_map (variables_in s) (map group_seen gs)) (take_all c.loop-group.group-index c.args.groups.now c.loop-group-test.false))
