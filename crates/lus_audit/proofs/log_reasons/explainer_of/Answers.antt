-- What an accepted program has.
use Rattle.std.proofs.Common.{◌∙◌, [], ap, sym, subst}
use Rattle.std.proofs.lemmas.Result.{IfOk-weaker}
use Rattle.lus_values.specs.Lists.{Each}
use Rattle.lus_program.specs.Programs.{Program}
use Rattle.lus_program.specs.Resolved.{Resolved}
use Rattle.lus_program.specs.View.{program_seen}
use Rattle.lus_order.specs.Orders.{IsNarrow, NeedsVariables}
use Rattle.lus_printable.specs.Printable.{printable}
use Rattle.lus_windows.specs.Reasons.{Explains}
use Rattle.lus_audit.proofs.Accepted.{accepted_resolved, accepted_needs, accepted_narrow}
use Rattle.lus_audit.proofs.log_reasons.explainer_of.Goals as goal

pub new-requires-clause-resolved : goal.new-requires-clause-resolved
new-requires-clause-resolved c = subst Resolved (sym c.source.ensures.same) (accepted_resolved _ c.source.ensures.accepted)

pub new-requires-clause-needs : goal.new-requires-clause-needs
new-requires-clause-needs c = subst (λ (p : Program). Each NeedsVariables p.nodes) (sym c.source.ensures.same) (accepted_needs _ c.source.ensures.accepted)

pub new-requires-clause-narrow : goal.new-requires-clause-narrow
new-requires-clause-narrow c = subst (λ (p : Program). Each IsNarrow p.nodes) (sym c.source.ensures.same) (accepted_narrow _ c.source.ensures.accepted)

pub returns : goal.returns
returns c =
    let f = c.args.node.0 in
    let shown = c.as_str.ensures.value ∙ c.in_ok-shown.ensures.exact ∙ ap printable c.as_bytes.ensures.value in
    IfOk-weaker c.new.result _ _
    (λ e explains.
    subst (λ (p : Program). Explains p f (printable c.args.instance.now) [] e) c.source.ensures.same
    (subst (λ i. Explains (program_seen c.source.result.now) f i [] e) shown explains))
    c.new.ensures
