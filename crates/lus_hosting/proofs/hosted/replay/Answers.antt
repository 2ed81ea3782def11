-- The instance keeps to its node: no entry is recalled before this one.
use Rattle.std.proofs.Common.{subst, sym}
use Rattle.lus_hosting.specs.LastEntries.{IsLast}
use Rattle.lus_hosting.proofs.hosted.replay.Goals as goal

pub returns-in_err-verdict-clause-live : goal.returns-in_err-verdict-clause-live
returns-in_err-verdict-clause-live c = λ p f live. (c.replay_line.ensures.same p f (live, tt)).0

pub returns-clause-live : goal.returns-clause-live
returns-clause-live c = λ p f live. (c.replay_line.ensures.same p f (live, tt)).0

pub returns-clause-last : goal.returns-clause-last
returns-clause-last c = λ p f live.
    subst (λ o. IsLast o c.replay_line.new.reactor.instance.reactor.history) (sym c.take.ensures.value) (c.replay_line.ensures.same p f (live, tt)).1
