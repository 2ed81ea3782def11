-- With scripts or without.
use Rattle.std.proofs.Common.{sym, subst, IfOk, option_map}
use Rattle.lus_explain.specs.Judged.{IsJudged}
use Rattle.lus_explain.proofs.judging.judge.Goals as goal

pub returns-in-Some-clause-judged : goal.returns-in-Some-clause-judged
returns-in-Some-clause-judged c =
    subst (λ o. IfOk c.judge_both.result (λ v. IsJudged c.args.form c.args.program.bytes.now v.status (option_map (λ s. s.bytes.now) o))) (sym c.in-Some.is)
    c.judge_both.ensures.judged

pub returns-in-None-clause-judged : goal.returns-in-None-clause-judged
returns-in-None-clause-judged c =
    subst (λ o. IfOk c.judge_program.result (λ v. IsJudged c.args.form c.args.program.bytes.now v.status (option_map (λ s. s.bytes.now) o))) (sym c.in-None.is)
    c.judge_program.ensures.judged
