use Rattle.std.proofs.Common.{◌∙◌, ap, map, sym}
use Rattle.std.proofs.lemmas.Bool.{both_ways}
use Rattle.lus_syntax.specs.declared.tree.Tree.{Tree as StoredTree}
use Rattle.lus_syntax.specs.View.{constant_seen, tree_seen}
use Rattle.lus_source.specs.Scopes.{Scope}
use Rattle.lus_source.proofs.Faults.{passed_on}
use Rattle.lus_types.proofs.TablesMeant.{constants_are}
use Rattle.lus_types.proofs.passes.program.Goals as goal

pub returns-in_err-check_constants-clause-typed : goal.returns-in_err-check_constants-clause-typed
returns-in_err-check_constants-clause-typed c =
    let tree = c.deref.ensures.value ∙ ap (λ (t : StoredTree). t.constants.items) (c.tree.ensures.same ∙ c.tabled.view_is) in
    let same = constants_are (tree_seen c.args.tabled) _ _ (rw c.tabled.view_is at c.tabled.invariant).seen (ap (map constant_seen) tree) in
    let r = c.from_residual in
    passed_on _ (λ failed typed. both_ways _ (sym same ∙ failed) typed.constants) r.result c.in_err-check_constants.field-0.0 r.ensures.1 c.in_err-check_constants.ensures

pub returns-clause-typed : goal.returns-clause-typed
returns-clause-typed c =
    let tree = c.deref.ensures.value ∙ ap (λ (t : StoredTree). t.constants.items) (c.tree.ensures.same ∙ c.tabled.view_is) in
    let same = constants_are (tree_seen c.args.tabled) _ _ (rw c.tabled.view_is at c.tabled.invariant).seen (ap (map constant_seen) tree) in
    record { constants = sym same ∙ c.in_ok-check_constants.ensures; nodes = c.in_ok-nodes.ensures.typed }

pub returns-clause-means : goal.returns-clause-means
returns-clause-means c =
    let types = c.into_declared.ensures ∙ ap (λ (s : Scope). s.declared) (rw c.tabled.view_is at c.tabled.invariant).seen in
    let nodes = c.in_ok-nodes.ensures.meant in
    λ i. record { types = types i; nodes = nodes i }
