-- The variables' names with their types are what their declarations say.
use Rattle.std.proofs.Common.{arith, ◌≡◌, ◌∙◌, ◌<◌, ap, get_or, length, map, sym}
use Rattle.std.proofs.lemmas.List.{get_or-map, length-map}
use Rattle.lus_syntax.specs.Trees.{Node}
use Rattle.lus_syntax.specs.View.{tree_seen}
use Rattle.lus_source.specs.Tables.{group_kinds, groups, no_node, node_at}
use Rattle.lus_source.specs.ScopeView.{kinds_seen, tables_seen}
use Rattle.lus_source.proofs.OfSource.{entered}
use Rattle.lus_source.proofs.tabled.enter.Goals as goal

pub index-requires : goal.index-requires
index-requires c =
    let p = tree_seen c.args.tabled.now in
    let own = λ (f : Node). map (λ e. e.1) (group_kinds p (groups f)) in
    let kinds : kinds_seen c.tabled.inside.tables.variables.items ≡ map own p.nodes = rw c.tabled.view_is at c.tabled.invariant.variables in
    omega (arith, c.requires, ap length kinds, length-map p.nodes own, length-map c.tabled.inside.tables.variables.items (λ kinds. kinds.items))

pub returns : goal.returns
returns c =
    let p = tree_seen c.args.tabled.now in
    let own = λ (f : Node). map (λ e. e.1) (group_kinds p (groups f)) in
    let all = c.tabled.inside.tables.variables.items in
    let kinds : kinds_seen all ≡ map own p.nodes = rw c.tabled.view_is at c.tabled.invariant.variables in
    let lt : c.args.node < length all = omega (arith, c.requires, ap length kinds, length-map p.nodes own, length-map all (λ kinds. kinds.items)) in
    let here : c.as_slice.result.now ≡ own (node_at p c.args.node) =
    c.as_slice.ensures.value
    ∙ ap (λ kinds. kinds.items) c.index.ensures
    ∙ sym (get_or-map (λ kinds. kinds.items) all c.args.node c.index.result.now c.as_slice.result.now lt)
    ∙ ap (λ ks. get_or ks c.args.node c.as_slice.result.now) kinds
    ∙ get_or-map own p.nodes c.args.node no_node c.as_slice.result.now c.requires in
    entered p (node_at p c.args.node) (tables_seen c.tabled.inside.tables) c.variables.result.now c.as_slice.result.now (rw c.tabled.view_is at c.tabled.invariant.seen)
    (rw (c.named.ensures.same, c.tabled.view_is) at c.variables.ensures) here
