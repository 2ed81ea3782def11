-- The lines so far are items, whose entries are new in the history.
use Rattle.std.proofs.Common.{◌≤◌, ℕ}
use Rattle.lus_program.specs.Programs.{Program}
use Rattle.lus_replay.proofs.Journals.{SoFar}
use Rattle.lus_replay.proofs.replaying.replay.Given as goal

abbrev pub invariant-loop-lines : goal.invariant-loop-lines
invariant-loop-lines g l =
    (l.entries ≤ l.lines)
    × SoFar l.names (g.S.Source.left l.initial.source) (g.S.Source.left l.source) (g.R.Reacts.history l.initial.reactor) (g.R.Reacts.history l.reactor)
    l.entries l.lines l.is_counted
    × ((p : Program) (f : ℕ) → g.R.Reacts.is_of l.initial.reactor p f → g.R.Reacts.is_of l.reactor p f)
