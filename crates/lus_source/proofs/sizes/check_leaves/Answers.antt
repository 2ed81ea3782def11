use Rattle.std.proofs.Common.{◌∙◌, ap, map, subst}
use Rattle.std.proofs.lemmas.Result.{MatchResult-weaker}
use Rattle.lus_program.specs.View.{declared_of}
use Rattle.lus_syntax.specs.declared.tree.Tree.{Tree as StoredTree}
use Rattle.lus_program.specs.Leaves.{declared_leaves}
use Rattle.lus_source.specs.ScopeView.{Judged}
use Rattle.lus_source.proofs.Measures.{leaves_meant, leaves_measure, meant_within, of_things, ordered}
use Rattle.lus_source.proofs.sizes.check_leaves.Goals as goal

pub measured-requires : goal.measured-requires
measured-requires c =
    let t = c.args.tabled.now in
    let has = rw c.tabled.view_is at c.tabled.invariant in
    let listed = c.deref-2.ensures.value ∙ ap (λ (u : StoredTree). u.types.items) (c.tree.ensures.same ∙ c.tabled.view_is) in
    let measure = leaves_measure (map declared_of c.deref.result.now) in
    record {
      order = ordered t c.tabled.inside.tables has c.deref.result.now c.deref.ensures.value c.types.result.now (rw c.tabled.view_is at c.types.ensures);
      measure = of_things t c.tabled.inside.tables has c.deref.result.now c.deref.ensures.value 1 declared_leaves measure c.deref-2.result.now listed;
    }

pub returns : goal.returns
returns c =
    let t = c.args.tabled.now in
    let has = rw c.tabled.view_is at c.tabled.invariant in
    let listed = c.deref-2.ensures.value ∙ ap (λ (u : StoredTree). u.types.items) (c.tree.ensures.same ∙ c.tabled.view_is) in
    let measure = leaves_measure (map declared_of c.deref.result.now) in
    let order = rw c.tabled.view_is at c.types.ensures in
    let counted = rw (c.tree.ensures.same, c.tabled.view_is) at c.tree.ensures.counted in
    record {
      leaves = MatchResult-weaker c.measured.result c.measured.ensures.found (λ leaves found. leaves_meant t c.tabled.inside.tables has c.deref.result.now c.deref.ensures.value c.types.result.now order 1024 leaves.items found counted) (λ _ _. tt);
      within = subst (λ (P : Type 0). Judged c.measured.result P) (meant_within t c.tabled.inside.tables has c.deref.result.now c.deref.ensures.value 1 declared_leaves measure c.deref-2.result.now listed 1024) c.measured.ensures.fit;
    }
