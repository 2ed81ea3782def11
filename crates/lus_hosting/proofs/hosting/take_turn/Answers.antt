-- What was read is written, or a part of it.
use Rattle.std.proofs.Common.{None, Some, string_bytes}
use Rattle.lus_devices.proofs.Lines.{on_err}
use Rattle.lus_hosting.proofs.AnswerLaws.{begun, written}
use Rattle.lus_hosting.proofs.hosting.take_turn.Goals as goal

pub returns-clause-ok : goal.returns-clause-ok
returns-clause-ok g c = λ before keeps.
    written _ _ _ (g.J.Tells.spelling c.args.scribe.now) (g.T.Tells.spelling c.args.teller.now) before (string_bytes c.read_turn.new.texts.entry)
    (string_bytes c.read_turn.new.texts.answer) c.read_turn.new.instances _ _ _ _ (Some c.args.held.now.items) (Some c.write_entry.new.held.items) c.in_ok-kind.kind
    (c.in_ok-kind.ensures before keeps) c.in_ok-write_entry.ensures.whole

pub returns-in_err-write_entry-clause-err : goal.returns-in_err-write_entry-clause-err
returns-in_err-write_entry-clause-err g c = λ before keeps.
    on_err c.from_residual-in_err-write_entry.result _
    (begun _ _ _ (g.J.Tells.spelling c.args.scribe.now) (g.T.Tells.spelling c.args.teller.now) before (string_bytes c.read_turn.new.texts.entry)
    (string_bytes c.read_turn.new.texts.answer) c.read_turn.new.instances _ _ _ _ None None c.in_ok-kind.kind (c.in_ok-kind.ensures before keeps)
    c.in_err-write_entry.ensures.some)
