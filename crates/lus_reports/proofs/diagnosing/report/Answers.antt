-- Nothing is said where there are no errors.
use Rattle.std.proofs.Common.{arith, ◌≡◌, ◌≢◌, length}
use Rattle.std.proofs.lemmas.Grind.{common_steps}
use Rattle.lus_reports.proofs.Verdicts.{accepted_by, refused_by}
use Rattle.lus_reports.proofs.diagnosing.report.Goals as goal

pub returns-then-is_empty : goal.returns-then-is_empty
returns-then-is_empty c =
    let none : length c.in_ok-diagnosis.diagnosis.errors.items ≡ 0 = grind (arith, common_steps) in
    accepted_by c.args.bytes.now c.in_ok-diagnosis.diagnosis.errors.items none c.in_ok-diagnosis.ensures

pub returns : goal.returns
returns c =
    let some : length c.in_ok-diagnosis.diagnosis.errors.items ≢ 0 = grind (arith, common_steps) in
    refused_by c.args.bytes.now c.in_ok-diagnosis.diagnosis.errors.items some c.in_ok-diagnosis.ensures
