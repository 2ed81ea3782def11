-- The line is compared with that of the entry which the call made.
use Rattle.std.proofs.Common.{subst}
use Rattle.lus_asked.specs.Asked.{IsRead}
use Rattle.lus_replay.proofs.Lines.{judged_ok}
use Rattle.lus_replay.proofs.line.replay_line.Goals as goal

pub returns-clause-judged : goal.returns-clause-judged
returns-clause-judged g c =
    judged_ok _ _ _ _ _ _ _ _ _ _ c.compare.result
    (λ caller r is spelled begins. subst (IsRead caller r) c.in-Some.is (c.in_ok-caller.ensures.complete caller c.args.number r begins.0 is spelled begins.1))
    c.compare.ensures c.as_bytes.ensures.value c.in_ok-spell.ensures c.in_ok-reply.ensures.ok
