-- By what `split_once` says.
use Rattle.std.proofs.Common.{subst, sym}
use Rattle.lus_hosting.specs.Turns.{SplitsCall}
use Rattle.lus_hosting.proofs.CallLaws.{caller_seen, splits_at}
use Rattle.lus_hosting.proofs.words.split_call.Goals as goal

pub returns-in-None : goal.returns-in-None
returns-in-None c =
    subst (λ o. SplitsCall (caller_seen o) c.args.text.now c.split_once.result) (sym c.in-None.is)
    (splits_at c.args.text.now c.split_once.result c.split_once.ensures.cases)
