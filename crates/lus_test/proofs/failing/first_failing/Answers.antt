-- One more run, in which the claim held.
use Rattle.std.proofs.Common.{◌∙◌, ap, length}
use Rattle.lus_test.proofs.Trials.{held_more}
use Rattle.lus_test.proofs.failing.first_failing.Goals as goal

pub loop-run-preserved : goal.loop-run-preserved
loop-run-preserved g c =
    held_more c.args.subject.now c.in_ok-trial.trial c.loop-run.run c.args.steps c.loop-run.invariant c.in_ok-trial.ensures.trial
    (c.in_ok-trial.ensures.long ∙ ap length c.deref-in-loop-run.ensures.value ∙ c.in_ok-numbers.ensures)
    (rw c.in-None.is at c.failure_of.ensures)
