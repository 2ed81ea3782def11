-- What is in the log, and what is told or held, is the texts of the entries of the lines so far.
use Rattle.std.specs.Prelude.{ℕ}
use Rattle.lus_program.specs.Programs.{Program}
use Rattle.lus_play.proofs.AheadLaws.{SoFar}
use Rattle.lus_play.proofs.playing.play.Given as goal

abbrev pub invariant-loop-turn : goal.invariant-loop-turn
invariant-loop-turn g l =
    SoFar g.row.L.Denot g.L.Syncs.syncs g.L.Sink.written l.is_synced (g.C.Calls.reads l.calls) (g.J.Speaks.says l.scribe) (g.T.Speaks.says l.speaker) l.first
    (g.S.Source.left l.initial.input) (g.R.Reacts.history l.initial.reactor) (g.L.Sink.written l.initial.log) (g.O.Sink.written l.initial.output)
    (g.S.Source.left l.input) (g.R.Reacts.history l.reactor) (g.L.Sink.written l.log) (g.O.Sink.written l.output) l.held.items l.turn l.refused
    × ((p : Program) (f : ℕ) → g.R.Reacts.is_of l.initial.reactor p f → g.R.Reacts.is_of l.reactor p f)
