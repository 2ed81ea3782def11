-- The newest test decides.
use Rattle.lus_attempts.proofs.Newest.{newest_decides}
use Rattle.lus_attempts.proofs.newest_tests_decide.Goals as goal

pub returns : goal.returns
returns c = newest_decides
