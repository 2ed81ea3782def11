-- What is defined is doubled, or then in the table.
use Rattle.std.proofs.Common.{◌≡◌, ◌∙◌, sym, true}
use Rattle.std.specs.Prelude.{is_none}
use Rattle.std.proofs.lemmas.Result.{MatchResult-weaker}
use Rattle.lus_source.specs.NameView.{texts}
use Rattle.lus_source.proofs.Faults.{judged_by, passed_on}
use Rattle.lus_source.proofs.DeclaredNames.{lefts_defined}
use Rattle.lus_source.proofs.left.check_defined.Goals as goal

pub returns-in_err-declare_defined-clause-refused : goal.returns-in_err-declare_defined-clause-refused
returns-in_err-declare_defined-clause-refused c =
    passed_on _ (λ doubled new whole. cc) c.from_residual.result c.in_err-declare_defined.field-0.0 c.from_residual.ensures.1 c.in_err-declare_defined.ensures.new

pub returns : goal.returns
returns c =
    let is = lefts_defined c.args.node.now (texts c.args.defined.now.keys) (texts c.declare_defined.new.table.keys) (is_none c.absent.result) c.in_ok-declare_defined.ensures.kept (rw c.deref.ensures.value at c.absent.ensures) in
    record {
      defined = MatchResult-weaker c.refuse.result c.refuse.ensures (λ _ none. sym is ∙ none) (λ _ _. tt);
      refused = judged_by (λ _. tt) (λ some new whole. let none : is_none c.absent.result ≡ true = is ∙ whole in cc) c.refuse.result c.refuse.ensures;
    }
