-- A line that was cut short, an entry's, and one that is none.
use Rattle.lus_replay.proofs.Journals.{cut_line, entry_line}
use Rattle.lus_replay.proofs.replaying.judge.Goals as goal

pub returns-then-is_cut_short-clause-judged : goal.returns-then-is_cut_short-clause-judged
returns-then-is_cut_short-clause-judged g c =
    cut_line _ _ _ _ _ c.requires.whole (c.is_cut_short.ensures.0 c.if-is_cut_short.true) c.pass.ensures.still

pub returns-in-Right-clause-judged : goal.returns-in-Right-clause-judged
returns-in-Right-clause-judged g c = entry_line _ _ _ _ _ _ _ c.in-Right.is c.in_ok-replay_line.ensures.judged
