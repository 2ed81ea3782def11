-- The fault stands behind its row.
use Rattle.std.proofs.Common.{string_bytes}
use Rattle.std.proofs.lemmas.Result.{on_ok_weaker}
use Rattle.lus_windows.proofs.reasons.push_found.Goals as goal

pub returns : goal.returns
returns c = on_ok_weaker c.push_fault.result (λ says. (string_bytes c.push_row.new.text, c.in_ok-push_row.ensures, says)) c.push_fault.ensures
