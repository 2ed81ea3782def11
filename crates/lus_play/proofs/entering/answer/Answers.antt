-- A call whose reply can't be held is entered in the log.
use Rattle.std.proofs.Common.{inr, subst}
use Rattle.lus_devices.proofs.Lines.{on_err}
use Rattle.lus_play.specs.Plays.{entry_of}
use Rattle.lus_play.proofs.AheadLaws.{all_begun}
use Rattle.lus_play.proofs.entering.answer.Goals as goal

pub returns-in_err-hold_reply-clause-err : goal.returns-in_err-hold_reply-clause-err
returns-in_err-hold_reply-clause-err g c =
    on_err c.from_residual-in_err-hold_reply.result _
    (inr (
      entry_of c.in-Some.request c.in_ok-reply.reply,
      subst (g.C.Calls.reads c.args.calls.now c.args.line.now) c.in-Some.is c.in_ok-request.ensures,
      c.in_ok-reply.ensures.ok,
      all_begun _ _ _ c.in_ok-enter.ensures.whole,
    ))
