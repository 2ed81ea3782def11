-- A turn enters one call, whose reply is told once it is due, or does nothing.
use Rattle.std.proofs.Common.{refl}
use Rattle.lus_devices.proofs.Lines.{on_err}
use Rattle.lus_play.proofs.AheadLaws.{failed, so_far_start, stopped, turn_ended, turn_entered, turn_refused, turn_unfinished, turn_unsettled}
use Rattle.lus_play.proofs.playing.play.Goals as goal
use Rattle.lus_play.proofs.playing.play.Goals.{in-Entered, in-Refused}

pub loop-turn-init : goal.loop-turn-init
loop-turn-init g c = (so_far_start g.row.L.Denot g.L.Syncs.syncs g.L.Sink.written _ _ _ _ _ _ _ _ _ _ c.new-held.ensures.items, λ p f of. of)

pub returns-in_err-taken-clause-some : goal.returns-in_err-taken-clause-some
returns-in_err-taken-clause-some g c =
    on_err c.from_residual.result _ (failed g.row.L.Denot g.L.Syncs.syncs g.L.Sink.written _ _ _ _ _ _ _ _ _ _ _ _ _ _ _ _ c.loop-turn.invariant.0 _ _ _ refl c.in_err-taken.ensures.err)

pub returns-in_err-settle-clause-some : goal.returns-in_err-settle-clause-some
returns-in_err-settle-clause-some g c =
    on_err c.from_residual-in_err-settle.result _ (turn_unsettled g.row.L.Denot g.L.Syncs.syncs g.L.Sink.written _ _ _ _ _ _ _ _ _ _ _ _ _ _ _ _ c.loop-turn.invariant.0 _ _ refl _ _ c.take_turn.new.log c.settle.new.log _ _ c.in_ok-taken.ensures.ok c.settle.ensures.written c.in_err-settle.ensures.some)

pub loop-turn-preserved : goal.loop-turn-preserved
loop-turn-preserved g c =
    elim c.match-taken.branch [
      | in-Entered w ↦ (
        turn_entered g.row.L.Denot g.L.Syncs.syncs g.L.Sink.written _ _ _ _ _ _ _ _ _ _ _ _ _ _ _ _ c.loop-turn.invariant.0 _ _ refl _ _ c.take_turn.new.log c.settle.new.log _ _ c.in_ok-taken.ensures.ok c.settle.ensures.written _ _ c.in_ok-settle.ensures.all _ w.in-Entered.is w.refused-is,
        λ p f of. c.take_turn.ensures.same p f (c.loop-turn.invariant.1 p f of),
      )
      | in-Refused w ↦ (
        turn_refused g.row.L.Denot g.L.Syncs.syncs g.L.Sink.written _ _ _ _ _ _ _ _ _ _ _ _ _ _ _ _ c.loop-turn.invariant.0 _ _ refl _ _ c.take_turn.new.log c.settle.new.log _ _ c.in_ok-taken.ensures.ok c.settle.ensures.written _ _ c.in_ok-settle.ensures.all _ w.in-Refused.is w.refused-is,
        λ p f of. c.take_turn.ensures.same p f (c.loop-turn.invariant.1 p f of),
      )
    ]

pub returns-in-Unfinished-clause-all : goal.returns-in-Unfinished-clause-all
returns-in-Unfinished-clause-all g c =
    turn_unfinished g.row.L.Denot g.L.Syncs.syncs g.L.Sink.written _ _ _ _ _ _ _ _ _ _ _ _ _ _ _ _ c.loop-turn.invariant.0 _ _ refl _ _ c.take_turn.new.log c.settle.new.log _ _ c.in_ok-taken.ensures.ok c.settle.ensures.written _ _ c.in_ok-settle.ensures.all c.in-Unfinished.is (c.are_due-is_due.ensures.unfinished c.in-Unfinished.is) _ refl refl

pub returns-in-Ended-clause-all : goal.returns-in-Ended-clause-all
returns-in-Ended-clause-all g c =
    turn_ended g.row.L.Denot g.L.Syncs.syncs g.L.Sink.written _ _ _ _ _ _ _ _ _ _ _ _ _ _ _ _ c.loop-turn.invariant.0 _ _ refl _ _ c.take_turn.new.log c.settle.new.log _ _ c.in_ok-taken.ensures.ok c.settle.ensures.written _ _ c.in_ok-settle.ensures.all c.in-Ended.is (c.are_due-is_due.ensures.ended c.in-Ended.is) _ refl refl

pub returns-clause-some : goal.returns-clause-some
returns-clause-some g c = stopped g.row.L.Denot g.L.Syncs.syncs g.L.Sink.written _ _ _ _ _ _ _ _ _ _ _ _ _ _ _ _ c.loop-turn.invariant.0
