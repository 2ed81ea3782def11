-- What an accepted program has, and that nothing is drawn of no entries.
use Rattle.std.proofs.Common.{sym, subst}
use Rattle.lus_values.specs.Lists.{Each}
use Rattle.lus_program.specs.Programs.{Program}
use Rattle.lus_program.specs.Resolved.{Resolved}
use Rattle.lus_program.specs.View.{program_seen}
use Rattle.lus_order.specs.Orders.{IsNarrow, NeedsVariables}
use Rattle.lus_cli.specs.CodeSpecs.Codes.{program_of}
use Rattle.lus_draw.specs.CommandLine.{drawing_seen}
use Rattle.lus_draw.proofs.Accepted.{accepted_resolved, accepted_needs, accepted_narrow}
use Rattle.lus_draw.proofs.Drawn.{drawn_begun}
use Rattle.lus_draw.proofs.gathering.GatheringObservers.begin.Goals as goal

pub new-requires-clause-resolved : goal.new-requires-clause-resolved
new-requires-clause-resolved g c = subst Resolved (sym c.source.ensures.same) (accepted_resolved _ c.source.ensures.accepted)

pub new-requires-clause-needs : goal.new-requires-clause-needs
new-requires-clause-needs g c = subst (λ (p : Program). Each NeedsVariables p.nodes) (sym c.source.ensures.same) (accepted_needs _ c.source.ensures.accepted)

pub new-requires-clause-narrow : goal.new-requires-clause-narrow
new-requires-clause-narrow g c = subst (λ (p : Program). Each IsNarrow p.nodes) (sym c.source.ensures.same) (accepted_narrow _ c.source.ensures.accepted)

pub returns-clause-new : goal.returns-clause-new
returns-clause-new g c =
    drawn_begun g.K.Selects.wanted (program_of c.args.program.now) (drawing_seen c.args.self.now.wanted) (program_seen c.source.result.now) c.args.node.0
    c.in_ok-sketch.sketch c.deref.result.now _ _
    c.args.self.now.is c.source.ensures.same c.deref.ensures.value c.in_ok-sketch.ensures.sketched c.in_ok-table.ensures
