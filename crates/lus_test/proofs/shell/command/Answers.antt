-- A fault has another status.
use Rattle.std.proofs.Common.{◌∙◌, sym}
use Rattle.lus_test.proofs.Ends.{fault_fails}
use Rattle.lus_test.proofs.shell.command.Goals as goal

pub returns-in-Err : goal.returns-in-Err
returns-in-Err g c = λ zero. absurd (fault_fails c.in-Err.fault (sym c.tell.ensures.0 ∙ zero))
