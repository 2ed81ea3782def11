-- How the bytes that were read are judged, the file's are.
use Rattle.std.proofs.Common.{◌≡◌, ◌+◌, refl, subst, take, None}
use Rattle.std.proofs.lemmas.Result.{IfOk-weaker}
use Rattle.lus_syntax.specs.Limits.{most_bytes}
use Rattle.lus_explain.specs.Judged.{IsJudged}
use Rattle.lus_explain.proofs.Left.{file_then, judged_left}
use Rattle.lus_explain.proofs.shell.judge_program.Goals as goal

pub returns-clause-judged : goal.returns-clause-judged
returns-clause-judged g c =
    let form = c.args.form in
    let read = c.in_ok-program.program.items in
    IfOk-weaker c.judge.result _ _ (λ v judged. file_then (g.D.Folder.known c.args.folder.now c.args.name.now) (λ bs. read ≡ take (most_bytes + 1) bs)
    (λ text. IsJudged form text v.status None)
    (λ text same. judged_left most_bytes (most_bytes + 1) refl refl read text same form v.status
    (subst (λ bs. IsJudged form bs v.status None) c.deref.ensures.value judged))
    c.in_ok-program.ensures.bytes) c.judge.ensures.judged
