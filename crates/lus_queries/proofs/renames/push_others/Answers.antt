-- Each change goes behind those before it.
use Rattle.lus_queries.proofs.EditLaws.{pushed_next}
use Rattle.lus_queries.proofs.renames.push_others.Goals as goal

pub loop-change-preserved : goal.loop-change-preserved
loop-change-preserved c =
    pushed_next _ _ _ c.args.changes.now c.loop-change.change-index _ c.loop-change-test.true c.loop-change.invariant c.in_ok-push_other.ensures
