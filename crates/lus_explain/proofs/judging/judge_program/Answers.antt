-- A program has errors, or it is accepted.
use Rattle.std.proofs.Common.{arith, ◌≡◌, ◌≢◌, length}
use Rattle.std.proofs.lemmas.Grind.{common_steps}
use Rattle.std.proofs.lemmas.Result.{IfOk-weaker}
use Rattle.lus_explain.specs.Judged.{is_accepted, is_refused}
use Rattle.lus_reports.proofs.Verdicts.{accepted_by, refused_by}
use Rattle.lus_explain.proofs.judging.judge_program.Goals as goal

pub returns-then-is_empty-clause-judged : goal.returns-then-is_empty-clause-judged
returns-then-is_empty-clause-judged c =
    let none : length c.in-Ok.diagnosis.errors.items ≡ 0 = grind (arith, common_steps) in
    let accepted = accepted_by c.args.program.bytes.now c.in-Ok.diagnosis.errors.items none c.in-Ok.ensures in
    IfOk-weaker c.accepted_program.result _ _ (λ v passed. is_accepted accepted.1.0 accepted.1.1 passed) c.accepted_program.ensures.passed

pub returns-clause-judged : goal.returns-clause-judged
returns-clause-judged c =
    let some : length c.in-Ok.diagnosis.errors.items ≢ 0 = grind (arith, common_steps) in
    let refused = refused_by c.args.program.bytes.now c.in-Ok.diagnosis.errors.items some c.in-Ok.ensures in
    IfOk-weaker c.told.result _ _ (λ v status. is_refused refused.0 refused.1 status) c.told.ensures.status
