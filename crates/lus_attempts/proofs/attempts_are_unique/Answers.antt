-- A base and inputs determine the attempt.
use Rattle.lus_attempts.proofs.Unique.{attempt_unique}
use Rattle.lus_attempts.proofs.attempts_are_unique.Goals as goal

pub returns : goal.returns
returns c = attempt_unique
