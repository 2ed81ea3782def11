use Rattle.std.proofs.Common.{rules, map}
use Rattle.lus_syntax.specs.View.{group_seen}
use Rattle.lus_source.specs.ScopeView.{scope_of}
use Rattle.lus_types.specs.ByScope.{group_fits}
use Rattle.lus_types.proofs.Groups.{all_hold-last}
use Rattle.lus_types.proofs.nodes.node_variables.Goals as goal

pub returns-in_err-push_groups-3-clause-fit : goal.returns-in_err-push_groups-3-clause-fit
returns-in_err-push_groups-3-clause-fit c =
    let s = scope_of c.args.scope.now in
    let f = c.args.source.now in
    let first = rw c.deref.ensures.value at c.in_ok-push_groups.ensures.fit in
    let second = rw c.deref-2.ensures.value at c.in_ok-push_groups-2.ensures.fit in
    let last = all_hold-last (group_fits s) (map group_seen f.inputs.items) (map group_seen f.outputs.items) (map group_seen f.locals.items) first second in
    let refused = rw c.deref-3.ensures.value at c.in_err-push_groups-3.ensures.fit in
    rw last (search (rules, refused))
