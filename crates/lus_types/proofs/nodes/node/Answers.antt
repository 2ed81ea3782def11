use Rattle.std.proofs.Common.{arith, ◌≡◌, ◌≤◌, ◌<◌, ◌∙◌, ℕ, ap, get_or, length, subst, sym}
use Rattle.std.specs.Prelude.{IfOk}
use Rattle.std.proofs.lemmas.List.{get_or-map, length-map}
use Rattle.lus_syntax.specs.declared.tree.Node.{Node as StoredNode}
use Rattle.lus_syntax.specs.declared.tree.Tree.{Tree as StoredTree}
use Rattle.lus_syntax.specs.Limits.{most_variables}
use Rattle.lus_syntax.specs.View.{node_seen, tree_seen}
use Rattle.lus_values.proofs.Lists.{each_at}
use Rattle.lus_program.specs.View.{node_of}
use Rattle.lus_source.specs.ScopeView.{Judged}
use Rattle.lus_source.specs.Sized.{Counted, variable_count}
use Rattle.lus_source.specs.Tables.{groups, no_node, node_at, scope}
use Rattle.lus_source.proofs.Faults.{judged_by}
use Rattle.lus_types.specs.ByScope.{IsTypedIn, node_in}
use Rattle.lus_types.proofs.TablesMeant.{node_is}
use Rattle.lus_types.proofs.TypedMeant.{node_typed, typed_node}
use Rattle.lus_types.proofs.nodes.node.Goals as goal

-- the node as it lies in the tree
module _ (t u : StoredTree) (same : u ≡ t) (x : ℕ) (lt : x < length (tree_seen t).nodes) where
  inside : x < length u.nodes.items
  inside = omega (arith, lt, length-map t.nodes.items node_seen, ap (λ (v : StoredTree). length v.nodes.items) same)

  here : (f : StoredNode) → f ≡ get_or u.nodes.items x f → node_at (tree_seen t) x ≡ node_seen f
  here f is = ap (λ (v : StoredTree). node_at (tree_seen v) x) (sym same) ∙ get_or-map node_seen u.nodes.items x f no_node inside ∙ ap node_seen (sym is)

pub index-source-requires : goal.index-source-requires
index-source-requires c = omega (arith, inside c.args.tabled.now c.tree.result.now (c.tree.ensures.same ∙ c.tabled.view_is) c.args.place c.requires)

pub node_in-requires : goal.node_in-requires
node_in-requires c =
    let t = c.args.tabled.now in
    let counted : Counted (tree_seen t) = rw (c.tree.ensures.same, c.tabled.view_is) at c.tree.ensures.counted in
    let few = each_at (λ f. variable_count (groups f) ≤ most_variables) (tree_seen t).nodes c.args.place no_node c.requires counted.variables in
    let own = here t c.tree.result.now (c.tree.ensures.same ∙ c.tabled.view_is) c.args.place c.requires c.index-source.result.now c.index-source.ensures in
    record { few = subst (λ f. variable_count (groups f) ≤ most_variables) own few }

pub returns-clause-meant : goal.returns-clause-meant
returns-clause-meant c =
    let t = c.args.tabled.now in
    let f = node_at (tree_seen t) c.args.place in
    let own = here t c.tree.result.now (c.tree.ensures.same ∙ c.tabled.view_is) c.args.place c.requires c.index-source.result.now c.index-source.ensures in
    subst (λ m. IfOk c.node_in.result (λ n. node_of n ≡ m)) (ap (λ s. node_in s (node_seen c.index-source.result.now)) c.enter-scope.ensures ∙ ap (node_in (scope (tree_seen t) f)) (sym own) ∙ node_is (tree_seen t) f)
    c.node_in.ensures.meant

pub returns-clause-typed : goal.returns-clause-typed
returns-clause-typed c =
    let t = c.args.tabled.now in
    let f = node_at (tree_seen t) c.args.place in
    let own = here t c.tree.result.now (c.tree.ensures.same ∙ c.tabled.view_is) c.args.place c.requires c.index-source.result.now c.index-source.ensures in
    let typed = subst (λ g. Judged c.node_in.result (IsTypedIn (scope (tree_seen t) f) g)) (sym own) (rw c.enter-scope.ensures at c.node_in.ensures.typed) in
    judged_by (node_typed (tree_seen t) f) (λ wrong typed. wrong (typed_node (tree_seen t) f typed)) c.node_in.result typed
