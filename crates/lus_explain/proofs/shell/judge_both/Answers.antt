-- How the bytes that were read are judged, both files' are.
use Rattle.std.proofs.Common.{◌≡◌, ◌+◌, refl, subst, take, Some}
use Rattle.std.proofs.lemmas.Result.{IfOk-weaker}
use Rattle.lus_syntax.specs.Limits.{most_bytes}
use Rattle.lus_explain.specs.Judged.{IsJudged}
use Rattle.lus_explain.proofs.Left.{files_then, judged_left, scripts_judged_left}
use Rattle.lus_explain.proofs.shell.judge_both.Goals as goal

pub returns-clause-judged : goal.returns-clause-judged
returns-clause-judged g c =
    let form = c.args.form in
    let known = g.D.Folder.known c.args.folder.now in
    let read = c.in_ok-program.program.items in
    let others = c.in_ok-scripts.scripts.items in
    IfOk-weaker c.judge.result _ _ (λ v judged. files_then (known c.args.program_name.now) (known c.args.scripts_name.now)
    (λ bs. read ≡ take (most_bytes + 1) bs) (λ bs. others ≡ take (most_bytes + 1) bs) (λ text bytes. IsJudged form text v.status (Some bytes))
    (λ text bytes same also. scripts_judged_left most_bytes (most_bytes + 1) refl refl others bytes also form text v.status
    (judged_left most_bytes (most_bytes + 1) refl refl read text same form v.status
    (subst (λ bs. IsJudged form bs v.status (Some others)) c.deref.ensures.value
    (subst (λ bs. IsJudged form c.deref.result.now v.status (Some bs)) c.deref-2.ensures.value judged))))
    c.in_ok-program.ensures.bytes c.in_ok-scripts.ensures.bytes) c.judge.ensures.judged
