-- One wrong node breaks the rule of all.
use Rattle.std.proofs.Common.{arith, ◌≡◌, ◌≤◌, ◌∙◌, ◌+◌, ◌++◌, ◌∷◌, [], ap, map, sym, subst, take}
use Rattle.std.proofs.lemmas.Grind.{common_steps}
use Rattle.std.proofs.lemmas.List.{map_more}
use Rattle.lus_syntax.specs.View.{node_seen}
use Rattle.lus_syntax.specs.Trees.{Node}
use Rattle.lus_values.specs.Lists.{Each}
use Rattle.lus_source.specs.Named.{Known, NodeNamed}
use Rattle.lus_source.specs.NameView.{known_seen}
use Rattle.lus_source.specs.Parts.{in_node}
use Rattle.lus_source.specs.Sized.{variable_count}
use Rattle.lus_source.specs.Tables.{groups}
use Rattle.lus_syntax.specs.Limits.{most_variables}
use Rattle.lus_values.proofs.Lists.{each_append, each_seen}
use Rattle.lus_source.proofs.Faults.{passed_on}
use Rattle.lus_source.proofs.nodes.check_nodes.Goals as goal

pub returns-in_err-check_node-clause-named : goal.returns-in_err-check_node-clause-named
returns-in_err-check_node-clause-named c =
    let f = node_seen c.node-item.result in
    let one = each_seen node_seen (λ f. NodeNamed (in_node (known_seen c.args.names.now) f) f) c.args.nodes.now c.loop-node.node-index c.node-item.result c.loop-node-test.true c.node-item.is in
    let here : in_node (known_seen c.args.names.now) f ≡ in_node (known_seen c.loop-node.names) f = sym (ap (λ k. in_node k f) c.loop-node.invariant.kept) in
    passed_on _ (λ refuted all. refuted (subst (λ (k : Known). NodeNamed k f) here (one all))) c.from_residual.result c.in_err-check_node.field-0.0 c.from_residual.ensures.1 c.in_err-check_node.ensures.named

pub loop-node-preserved : goal.loop-node-preserved
loop-node-preserved c =
    let nodes = c.args.nodes.now in
    let i = c.loop-node.node-index in
    let x = c.node-item.result in
    let before = map node_seen (take i nodes) in
    let grown : map node_seen (take (i + 1) nodes) ≡ before ++ node_seen x ∷ [] = map_more node_seen nodes i x c.loop-node-test.true ∙ ap (λ y. before ++ node_seen y ∷ []) (sym c.node-item.is) in
    let right = λ (f : Node). NodeNamed (in_node (known_seen c.args.names.now) f) f in
    let here : in_node (known_seen c.loop-node.names) (node_seen x) ≡ in_node (known_seen c.args.names.now) (node_seen x) = ap (λ k. in_node k (node_seen x)) c.loop-node.invariant.kept in
    let one : right (node_seen x) = subst (λ (k : Known). NodeNamed k (node_seen x)) here c.in_ok-check_node.ensures.named in
    record {
      kept = c.in_ok-check_node.ensures.kept ∙ c.loop-node.invariant.kept;
      named = subst (Each right) (sym grown) (each_append right before (node_seen x ∷ []) c.loop-node.invariant.named (one, tt));
      variables = grind (arith, common_steps);
    }

pub check_node-requires : goal.check_node-requires
check_node-requires c =
    record {
      empty = ap (λ (k : Known). k.variables) c.loop-node.invariant.kept ∙ c.requires.empty;
      few = each_seen node_seen (λ f. variable_count (groups f) ≤ most_variables) c.args.nodes.now c.loop-node.node-index c.node-item.result c.loop-node-test.true c.node-item.is c.requires.few;
    }
