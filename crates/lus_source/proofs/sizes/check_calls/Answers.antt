use Rattle.std.proofs.Common.{◌∙◌, ap, subst, sym}
use Rattle.lus_graph.specs.Walks.{uses_of}
use Rattle.lus_graph.specs.Ways.{IsOrder}
use Rattle.lus_syntax.specs.declared.tree.Tree.{Tree as StoredTree}
use Rattle.lus_syntax.specs.View.{tree_seen}
use Rattle.lus_source.specs.Loopless.{node_uses}
use Rattle.lus_source.specs.ScopeView.{Judged}
use Rattle.lus_source.proofs.Measures.{calls_measure, depths_within}
use Rattle.lus_source.proofs.sizes.check_calls.Goals as goal

pub measured-requires : goal.measured-requires
measured-requires c =
    let t = c.args.loopless.now in
    let same = ap uses_of c.deref.ensures.value ∙ c.in_ok-uses.ensures ∙ ap (λ (u : StoredTree). node_uses (tree_seen u)) c.named.ensures.same in
    let listed = c.deref-2.ensures.value ∙ ap (λ (u : StoredTree). u.nodes.items) c.tree.ensures.same in
    record { order = subst (λ us. IsOrder us c.nodes.result.now) (sym same) c.nodes.ensures; measure = calls_measure t _ same c.deref-2.result.now listed }

pub returns : goal.returns
returns c =
    let t = c.args.loopless.now in
    let same = ap uses_of c.deref.ensures.value ∙ c.in_ok-uses.ensures ∙ ap (λ (u : StoredTree). node_uses (tree_seen u)) c.named.ensures.same in
    let listed = c.deref-2.ensures.value ∙ ap (λ (u : StoredTree). u.nodes.items) c.tree.ensures.same in
    subst (λ (P : Type 0). Judged c.measured.result P) (depths_within t _ same c.deref-2.result.now listed 64) c.measured.ensures.fit
