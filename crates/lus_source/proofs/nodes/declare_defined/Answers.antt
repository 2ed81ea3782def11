-- Outputs and locals are distinct where each are new behind those before them.
use Rattle.std.proofs.Common.{◌∙◌, sym}
use Rattle.std.proofs.lemmas.Result.{on_ok_weaker}
use Rattle.lus_source.specs.NameView.{texts}
use Rattle.lus_source.proofs.Faults.{judged_by, passed_on}
use Rattle.lus_source.proofs.DeclaredNames.{defined_remain}
use Rattle.lus_source.proofs.AppendedNames.{remaining_doubled, remaining_step}
use Rattle.lus_source.proofs.nodes.declare_defined.Goals as goal

pub returns-in_err-declare_all-clause-new : goal.returns-in_err-declare_all-clause-new
returns-in_err-declare_all-clause-new c =
    let start = defined_remain c.args.node.now (texts c.args.table.now.keys) in
    passed_on _ (remaining_doubled _ _ _ _ _ start) c.from_residual.result c.in_err-declare_all.field-0.0 c.from_residual.ensures.1 (rw c.deref.ensures.value at c.in_err-declare_all.ensures.new)

pub returns : goal.returns
returns c =
    let start = defined_remain c.args.node.now (texts c.args.table.now.keys) in
    let behind = remaining_step _ _ _ _ _ _ start (rw c.deref.ensures.value at c.in_ok-declare_all.ensures.kept) (rw c.deref.ensures.value at c.in_ok-declare_all.ensures.new) in
    let last = rw c.deref-2.ensures.value at c.declare_all-2.ensures in
    record {
      kept = on_ok_weaker c.declare_all-2.result (λ grown. grown ∙ behind.kept) last.kept;
      new = judged_by (λ new. sym behind.same ∙ new) (λ doubled. sym behind.same ∙ doubled) c.declare_all-2.result last.new;
    }
