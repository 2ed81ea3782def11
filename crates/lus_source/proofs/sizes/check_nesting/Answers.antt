use Rattle.std.proofs.Common.{◌∙◌, ap, map, subst}
use Rattle.lus_program.specs.View.{declared_of}
use Rattle.lus_syntax.specs.declared.tree.Tree.{Tree as StoredTree}
use Rattle.lus_source.specs.ScopeView.{Judged}
use Rattle.lus_source.specs.Sized.{declared_nesting}
use Rattle.lus_source.proofs.Measures.{meant_within, nesting_measure, of_things, ordered}
use Rattle.lus_source.proofs.sizes.check_nesting.Goals as goal

pub measured-requires : goal.measured-requires
measured-requires c =
    let t = c.args.tabled.now in
    let has = rw c.tabled.view_is at c.tabled.invariant in
    let listed = c.deref-2.ensures.value ∙ ap (λ (u : StoredTree). u.types.items) (c.tree.ensures.same ∙ c.tabled.view_is) in
    let measure = nesting_measure (map declared_of c.deref.result.now) in
    record {
      order = ordered t c.tabled.inside.tables has c.deref.result.now c.deref.ensures.value c.types.result.now (rw c.tabled.view_is at c.types.ensures);
      measure = of_things t c.tabled.inside.tables has c.deref.result.now c.deref.ensures.value 0 declared_nesting measure c.deref-2.result.now listed;
    }

pub returns : goal.returns
returns c =
    let t = c.args.tabled.now in
    let has = rw c.tabled.view_is at c.tabled.invariant in
    let listed = c.deref-2.ensures.value ∙ ap (λ (u : StoredTree). u.types.items) (c.tree.ensures.same ∙ c.tabled.view_is) in
    let measure = nesting_measure (map declared_of c.deref.result.now) in
    subst (λ (P : Type 0). Judged c.measured.result P) (meant_within t c.tabled.inside.tables has c.deref.result.now c.deref.ensures.value 0 declared_nesting measure c.deref-2.result.now listed 64) c.measured.ensures.fit
