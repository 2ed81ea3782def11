-- The table has what is defined where it has the outputs and the locals.
use Rattle.std.proofs.Common.{◌≡◌, ◌∙◌, ◌&&◌, sym, true, false}
use Rattle.std.specs.Prelude.{is_none}
use Rattle.std.proofs.lemmas.Result.{MatchResult-weaker}
use Rattle.lus_syntax.specs.View.{node_seen}
use Rattle.lus_source.specs.Named.{all_new, left_names}
use Rattle.lus_source.specs.NameView.{texts}
use Rattle.lus_source.proofs.Faults.{judged_by, passed_on}
use Rattle.lus_source.proofs.DeclaredNames.{defined_whole, left_new}
use Rattle.lus_source.proofs.AppendedNames.{none_or}
use Rattle.lus_source.proofs.left.check_whole.Goals as goal

pub returns-in_err-declare_all-clause-refused : goal.returns-in_err-declare_all-clause-refused
returns-in_err-declare_all-clause-refused c =
    passed_on _ (λ doubled new whole. let old : all_new (texts c.args.left.now.keys) (left_names (node_seen c.args.node.now)) ≡ false = left_new c.args.node.now (texts c.args.left.now.keys) false doubled in cc)
    c.from_residual.result c.in_err-declare_all.field-0.0 c.from_residual.ensures.1 (rw c.deref.ensures.value at c.in_err-declare_all.ensures.new)

pub returns : goal.returns
returns c =
    let declared = rw c.deref.ensures.value at c.in_ok-declare_all.ensures in
    let either : is_none c.or.result ≡ (is_none c.absent.result && is_none c.absent-2.result) = rw c.or.ensures (none_or c.absent.result c.absent-2.result) in
    let is =
    either ∙ defined_whole c.args.node.now (texts c.args.left.now.keys) (texts c.declare_all.new.table.keys) (is_none c.absent.result) (is_none c.absent-2.result) declared.kept (rw c.deref-2.ensures.value at c.absent.ensures)
    (rw c.deref-3.ensures.value at c.absent-2.ensures) in
    record {
      distinct = MatchResult-weaker c.refuse.result c.refuse.ensures (λ _ none. left_new c.args.node.now (texts c.args.left.now.keys) true declared.new) (λ _ _. tt);
      whole = MatchResult-weaker c.refuse.result c.refuse.ensures (λ _ none. sym is ∙ none) (λ _ _. tt);
      refused = judged_by (λ _. tt) (λ some new whole. let none : is_none c.or.result ≡ true = is ∙ whole in cc) c.refuse.result c.refuse.ensures;
    }
