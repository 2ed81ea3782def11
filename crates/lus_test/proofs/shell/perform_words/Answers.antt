-- A claim holds, or tables pass.
use Rattle.std.proofs.Common.{inl, inr}
use Rattle.std.proofs.lemmas.Result.{IfOk-weaker}
use Rattle.lus_test.proofs.shell.perform_words.Goals as goal

pub returns-then-is_trial : goal.returns-then-is_trial
returns-then-is_trial g c = IfOk-weaker c.perform_claim.result _ _ (λ status holds zero. inr (holds zero)) c.perform_claim.ensures

pub returns-else-is_trial : goal.returns-else-is_trial
returns-else-is_trial g c = IfOk-weaker c.perform_tables.result _ _ (λ status passes zero. inl (passes zero)) c.perform_tables.ensures
