-- There are no errors where the bytes are accepted, or else first that of the refusal.
use Rattle.std.proofs.Common.{rules, subst, sym, ◌≡◌, []}
use Rattle.lus_diagnostics.specs.Errors.{AreErrors}
use Rattle.lus_reports.specs.Diagnoses.{IsAccepted, IsRefused}
use Rattle.lus_reports.proofs.Verdicts.{errors_by}
use Rattle.lus_reports.proofs.diagnosing.diagnose.Goals as goal

pub returns-in_ok-warnings-in-Ok : goal.returns-in_ok-warnings-in-Ok
returns-in_ok-warnings-in-Ok c =
    let none : c.new.result.items ≡ [] = search rules in
    subst (AreErrors IsAccepted IsRefused c.args.bytes.now) (sym none) (c.in-Ok._nodes, c.in-Ok.ensures.accepted)

pub returns-in_ok-errors_of-in-Err : goal.returns-in_ok-errors_of-in-Err
returns-in_ok-errors_of-in-Err c =
    let other = c.in_ok-errors_of-in-Err.ensures.other in
    errors_by c.args.bytes.now c.in-Err.refusal c.in_ok-errors_of-in-Err.field-0.items (other, c.in-Err.ensures.refused other) c.in_ok-errors_of-in-Err.ensures.first
