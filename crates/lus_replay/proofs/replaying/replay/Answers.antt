-- One more line is an item.
use Rattle.std.proofs.Common.{◌≤◌, ◌+◌, arith}
use Rattle.lus_replay.proofs.Follows.{reads_back}
use Rattle.lus_replay.proofs.Journals.{replayed, replays_more}
use Rattle.lus_replay.proofs.replaying.replay.Goals as goal

pub loop-lines-preserved : goal.loop-lines-preserved
loop-lines-preserved g c =
    let few = c.told_by-entries.ensures.few in
    let fewer = c.loop-lines.invariant.0 in
    let within : c.loop-lines.entries + c.told_by-entries.result ≤ c.loop-lines.lines + 1 = omega (arith, few, fewer) in (
      within,
      replays_more _ _ _ _ _ _ _ _ c.loop-lines.invariant.1 _ _ _ _ _ _ _ _ c.in-Item.is c.told_by-entries.ensures.told c.is_count-is_counted.ensures
          c.in_ok-kind.ensures.taken,
      λ p f of. c.take_turn.ensures.same p f (c.loop-lines.invariant.2 p f of),
    )

pub returns-in-Ended-clause-complete : goal.returns-in-Ended-clause-complete
returns-in-Ended-clause-complete g c =
    reads_back _ _ _ _ _ _ _ _ (replayed _ _ _ _ _ _ _ _ c.loop-lines.invariant.1 _ _ _ _ _ _ c.in-Ended.is c.in_ok-kind.ensures.taken)
