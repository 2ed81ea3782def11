-- An accepted program has orders.
use Rattle.std.proofs.Common.{sym, subst}
use Rattle.lus_values.specs.Lists.{Each}
use Rattle.lus_program.specs.Programs.{Program}
use Rattle.lus_order.specs.Orders.{IsNarrow, NeedsVariables}
use Rattle.lus_test.proofs.Accepted.{accepted_needs, accepted_narrow}
use Rattle.lus_test.proofs.covering.begin_coverage.Goals as goal

pub new-requires-clause-needs : goal.new-requires-clause-needs
new-requires-clause-needs c =
    subst (λ (p : Program). Each NeedsVariables p.nodes) (sym c.source.ensures.same) (accepted_needs _ c.source.ensures.accepted)

pub new-requires-clause-narrow : goal.new-requires-clause-narrow
new-requires-clause-narrow c =
    subst (λ (p : Program). Each IsNarrow p.nodes) (sym c.source.ensures.same) (accepted_narrow _ c.source.ensures.accepted)
