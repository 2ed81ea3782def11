-- What each check shows holds of the tree that all of them are given.
use Rattle.std.proofs.Common.{◌≡◌, ◌≢◌, ◌∙◌, inr, sym, ap, subst, Result}
use Rattle.std.specs.Prelude.{IfErr}
use Rattle.std.specs.Result.{IsErrAnd}
use Rattle.std.proofs.lemmas.Result.{err_from_is_err_and}
use Rattle.lus_syntax.specs.declared.refusal.RefusalNumber.{RefusalNumber}
use Rattle.lus_syntax.specs.declared.refusal.RefusalNumber.TheVariants as numbers
use Rattle.lus_syntax.specs.declared.tree.Tree.{Tree as StoredTree}
use Rattle.lus_syntax.specs.Trees.{Tree}
use Rattle.lus_syntax.specs.View.{tree_seen}
use Rattle.lus_program.specs.View.{program_seen}
use Rattle.lus_source.specs.declared.fault.Rejected.{Rejected}
use Rattle.lus_source.specs.Meaning.{program_of}
use Rattle.lus_source.specs.Refusals.{FirstFails, WellFormed}
use Rattle.lus_program.specs.Refusals.{RefusesFor}
use Rattle.lus_types.specs.TypedPrograms.{IsTypedSource}
use Rattle.lus_types.proofs.ProgramsMeant.{found}
use Rattle.lus_types.proofs.typing.judge_types.Goals as goal

first_fails : {T P : Type 0} (p : Tree) (number : RefusalNumber) → ((P → ⊥) → FirstFails p number) → (r : Result T Rejected) (e : Rejected) → IsErrAnd r (λ y. y ≡ e) → RefusesFor number P e.refusal
    → IfErr r (λ e. e.refusal.number ≢ numbers.Memory → FirstFails p e.refusal.number)
first_fails p number fails r e same refused =
    let given = err_from_is_err_and r same in
    rw (given.1, given.2) (λ other. subst (FirstFails p) (sym (refused other).1) (fails (refused other).0))

pub returns-in_err-leaves-clause-refused : goal.returns-in_err-leaves-clause-refused
returns-in_err-leaves-clause-refused c =
    let counted = c.in_ok-counted.ensures in
    let named = rw counted.same at c.in_ok-named.ensures in
    let loopless = rw named.same at c.in_ok-loopless.ensures in
    first_fails (tree_seen c.args.tree) numbers.Limit (λ wrong. inr (counted.ok, named.ok, loopless.ok, wrong))
    c.from_residual-in_err-leaves.result c.in_err-leaves.field-0.0 c.from_residual-in_err-leaves.ensures.1 (rw (c.in_ok-tabled.ensures ∙ loopless.same) at c.in_err-leaves.ensures.refused)

pub returns-in_err-program-clause-refused : goal.returns-in_err-program-clause-refused
returns-in_err-program-clause-refused c =
    let counted = c.in_ok-counted.ensures in
    let named = rw counted.same at c.in_ok-named.ensures in
    let loopless = rw named.same at c.in_ok-loopless.ensures in
    let same = c.in_ok-tabled.ensures ∙ loopless.same in
    let bounded = rw same at c.in_ok-leaves.ensures.ok in
    first_fails (tree_seen c.args.tree) numbers.Type (λ wrong. (counted.ok, named.ok, loopless.ok, bounded, wrong))
    c.from_residual-in_err-program.result c.in_err-program.field-0.0 c.from_residual-in_err-program.ensures.1 (rw same at c.in_err-program.ensures.refused)

pub returns-clause-ok : goal.returns-clause-ok
returns-clause-ok c =
    let counted = c.in_ok-counted.ensures in
    let named = rw counted.same at c.in_ok-named.ensures in
    let loopless = rw named.same at c.in_ok-loopless.ensures in
    let same = c.in_ok-tabled.ensures ∙ loopless.same in
    let program = rw same at c.in_ok-program.ensures in
    record {
      counted = counted.ok;
      named = named.ok;
      loopless = loopless.ok;
      bounded = rw same at c.in_ok-leaves.ensures.ok;
      typed = program.ok;
    }

pub new-requires : goal.new-requires
new-requires c =
    let counted = c.in_ok-counted.ensures in
    let named = rw counted.same at c.in_ok-named.ensures in
    let loopless = rw named.same at c.in_ok-loopless.ensures in
    let same = c.in_ok-tabled.ensures ∙ loopless.same in
    let leaves = rw same at c.in_ok-leaves.ensures in
    let program = rw same at c.in_ok-program.ensures in
    let formed : WellFormed (tree_seen c.args.tree) = record {
      counted = counted.ok;
      named = named.ok;
      loopless = loopless.ok;
      bounded = leaves.ok;
      typed = program.ok;
    } in
    found (tree_seen c.args.tree) (program_seen c.in_ok-program.program) c.into_parts-tree.result.1.items c.in_ok-leaves.leaves.items formed program.means (rw loopless.same at c.into_parts-tree.ensures.nodes) (rw loopless.same at c.into_parts-tree.ensures.types) leaves.leaves

pub new-requires-2 : goal.new-requires-2
new-requires-2 c =
    let counted = c.in_ok-counted.ensures in
    let named = rw counted.same at c.in_ok-named.ensures in
    let loopless = rw named.same at c.in_ok-loopless.ensures in
    let same = c.in_ok-tabled.ensures ∙ loopless.same in
    let program = rw same at c.in_ok-program.ensures in
    let formed : WellFormed (tree_seen c.args.tree) = record {
      counted = counted.ok;
      named = named.ok;
      loopless = loopless.ok;
      bounded = rw same at c.in_ok-leaves.ensures.ok;
      typed = program.ok;
    } in
    let means : program_seen c.new.result ≡ program_of (tree_seen c.args.tree) = ap program_seen c.new.ensures ∙ program.means in
    let tree : c.into_parts-tree.result.0 ≡ c.args.tree = c.into_parts-tree.ensures.tree ∙ loopless.same in
    subst (λ (t : StoredTree). IsTypedSource t c.new.result) (sym tree) (record { formed = formed; means = means })
