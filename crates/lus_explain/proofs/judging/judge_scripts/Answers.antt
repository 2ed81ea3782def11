-- Scripts are accepted, or refused for another cause than memory.
use Rattle.std.proofs.Common.{◌≡◌, ◌≢◌}
use Rattle.std.proofs.lemmas.Result.{IfOk-weaker}
use Rattle.lus_scripts.specs.View.{scripts_seen}
use Rattle.lus_scripts.specs.declared.refusal.ScriptRefusal.TheVariants.{Memory}
use Rattle.lus_reports.specs.CliSpecs.CodeSpecs.Codes.{program_of}
use Rattle.lus_explain.specs.Judged.{AreJudged, are_refused, are_scripts}
use Rattle.lus_explain.proofs.Statuses.{with_other}
use Rattle.lus_explain.proofs.judging.judge_scripts.Goals as goal

pub returns-in-Ok-clause-judged : goal.returns-in-Ok-clause-judged
returns-in-Ok-clause-judged c =
    IfOk-weaker c.accepted_scripts.result _ _ (λ v passed. are_scripts (scripts_seen c.in-Ok.accepted) c.in-Ok.ensures.ok passed)
    c.accepted_scripts.ensures.passed

pub returns-in-Err-clause-judged : goal.returns-in-Err-clause-judged
returns-in-Err-clause-judged c =
    let e = c.in-Err.refusal in
    with_other c.refused_scripts.result (λ v. v.status ≡ 2) (λ v. AreJudged c.args.form (program_of c.args.program.now) c.args.scripts.bytes.now v.status)
    (e ≢ Memory) c.refused_scripts.ensures.status c.refused_scripts.ensures.other
    (λ v status other. are_refused e other c.in-Err.ensures.refused status)
