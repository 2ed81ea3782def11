-- A program is refused for another cause than memory; or it is accepted, and so are the scripts judged.
use Rattle.std.proofs.Common.{◌≡◌, ◌≢◌, Some}
use Rattle.std.proofs.lemmas.Result.{IfOk-weaker}
use Rattle.lus_syntax.specs.declared.refusal.RefusalNumber.TheVariants.{Memory}
use Rattle.lus_reports.specs.CliSpecs.CodeSpecs.Codes.{program_of}
use Rattle.lus_explain.specs.Judged.{IsJudged, are_judged, is_refused}
use Rattle.lus_explain.proofs.Statuses.{with_other}
use Rattle.lus_explain.proofs.judging.judge_both.Goals as goal

pub returns-in-Ok-clause-judged : goal.returns-in-Ok-clause-judged
returns-in-Ok-clause-judged c =
    IfOk-weaker c.judge_scripts.result _ _ (λ v judged. are_judged (program_of c.in-Ok.accepted) c.in-Ok.ensures.accepted judged) c.judge_scripts.ensures.judged

pub returns-in-Err-clause-judged : goal.returns-in-Err-clause-judged
returns-in-Err-clause-judged c =
    let r = c.in-Err.refusal in
    with_other c.refused_program.result (λ v. v.status ≡ 1) (λ v. IsJudged c.args.form c.args.program.bytes.now v.status (Some c.args.scripts.bytes.now))
    (r.number ≢ Memory) c.refused_program.ensures.status c.refused_program.ensures.other
    (λ v status other. is_refused r (other, c.in-Err.ensures.refused other) status)
