-- A doubled name is doubled in the whole list; each thing adds its names.
use Rattle.std.proofs.Common.{ap, flat_map}
use Rattle.lus_source.proofs.Faults.{passed_on}
use Rattle.lus_source.proofs.Lookups.{drop_step}
use Rattle.lus_source.proofs.AppendedNames.{remaining_doubled, remaining_step}
use Rattle.lus_source.proofs.naming.declare_all.Goals as goal

pub returns-in_err-declare-clause-new : goal.returns-in_err-declare-clause-new
returns-in_err-declare-clause-new g c =
    let split = ap (flat_map g.T.Naming.named) (drop_step c.args.things.now c.loop-thing.thing-index c.thing-item.result c.loop-thing-test.true c.thing-item.is) in
    passed_on _ (remaining_doubled _ _ _ _ _ (rw split at c.loop-thing.invariant)) c.from_residual.result c.in_err-declare.field-0.0 c.from_residual.ensures.1 (rw c.names.ensures at c.in_err-declare.ensures.new)

pub loop-thing-preserved : goal.loop-thing-preserved
loop-thing-preserved g c =
    let split = ap (flat_map g.T.Naming.named) (drop_step c.args.things.now c.loop-thing.thing-index c.thing-item.result c.loop-thing-test.true c.thing-item.is) in
    remaining_step _ _ _ _ _ _ (rw split at c.loop-thing.invariant) (rw c.names.ensures at c.in_ok-declare.ensures.kept) (rw c.names.ensures at c.in_ok-declare.ensures.new)
