-- Each node by what the names in its text stand for.
use Rattle.std.proofs.Common.{arith, ◌+◌, ◌≡◌, ◌∙◌, ◌<◌, ◌++◌, [], ◌∷◌, ap, length, subst, sym, take}
use Rattle.std.proofs.lemmas.Grind.{common_steps}
use Rattle.std.proofs.lemmas.List.{length-map, take_more}
use Rattle.lus_syntax.specs.declared.tree.Tree.{Tree as StoredTree}
use Rattle.lus_syntax.specs.View.{node_seen, tree_seen}
use Rattle.lus_values.specs.Lists.{Each}
use Rattle.lus_values.proofs.Lists.{each_append, each_at}
use Rattle.lus_source.specs.Tables.{no_node, node_at}
use Rattle.lus_source.specs.WellTyped.{NodeTyped}
use Rattle.lus_source.proofs.Faults.{passed_on}
use Rattle.lus_types.proofs.passes.nodes.Goals as goal

pub node-requires : goal.node-requires
node-requires c =
    let same = c.tree.ensures.same ∙ c.tabled.view_is in
    omega (arith, c.loop-place-test.true, length-map c.args.tabled.now.nodes.items node_seen, ap (λ (t : StoredTree). length t.nodes.items) same)

pub returns-in_err-node-clause-typed : goal.returns-in_err-node-clause-typed
returns-in_err-node-clause-typed c =
    let p = tree_seen c.args.tabled.now in
    let same = c.tree.ensures.same ∙ c.tabled.view_is in
    let lt : c.loop-place.place < length p.nodes = omega (arith, c.loop-place-test.true, length-map c.args.tabled.now.nodes.items node_seen, ap (λ (t : StoredTree). length t.nodes.items) same) in
    passed_on _ (λ wrong all. wrong (each_at (NodeTyped p) p.nodes c.loop-place.place no_node lt all))
    c.from_residual-in_err-node.result c.in_err-node.field-0.0 c.from_residual-in_err-node.ensures.1 c.in_err-node.ensures.typed

pub loop-place-preserved : goal.loop-place-preserved
loop-place-preserved c =
    let p = tree_seen c.args.tabled.now in
    let i = c.loop-place.place in
    let same = c.tree.ensures.same ∙ c.tabled.view_is in
    let lt : i < length p.nodes = omega (arith, c.loop-place-test.true, length-map c.args.tabled.now.nodes.items node_seen, ap (λ (t : StoredTree). length t.nodes.items) same) in
    let more : take (i + 1) p.nodes ≡ take i p.nodes ++ node_at p i ∷ [] = take_more p.nodes i no_node lt in
    record {
      meant = grind (arith, common_steps);
      typed = subst (Each (NodeTyped p)) (sym more) (each_append (NodeTyped p) (take i p.nodes) (node_at p i ∷ []) c.loop-place.invariant.typed (c.in_ok-node.ensures.typed, tt));
    }
