-- The text is written, or the failure is told.
use Rattle.std.proofs.Common.{◌≡◌, refl, subst}
use Rattle.lus_devices.specs.Devices.{WritesBeginning, with_text}
use Rattle.lus_explain.specs.Ends.{is_cut, is_whole}
use Rattle.lus_explain.proofs.shell.write_text.Goals as goal

pub returns-in-Ok : goal.returns-in-Ok
returns-in-Ok g c =
    is_whole
    (subst (λ t. g.O.Sink.written c.write_all.new.sink ≡ with_text (g.O.Sink.written c.args.output.now) t) c.as_bytes.ensures.value c.in-Ok.ensures.whole)
    c.in-Ok.ensures.quiet (refl, refl) refl

pub returns-in-Err : goal.returns-in-Err
returns-in-Err g c =
    is_cut
    (subst (WritesBeginning (g.O.Sink.written c.args.output.now) (g.O.Sink.written c.write_all.new.sink)) c.as_bytes.ensures.value c.in-Err.ensures.beginning)
    c.in-Err.ensures.failed c.tell.ensures
