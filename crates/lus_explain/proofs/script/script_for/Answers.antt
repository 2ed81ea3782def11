-- The program is accepted, or refused for another cause than memory.
use Rattle.std.proofs.lemmas.Result.{IfOk-weaker}
use Rattle.lus_reports.specs.CliSpecs.CodeSpecs.Codes.{program_of}
use Rattle.lus_explain.specs.Skeletons.{is_of, is_refused}
use Rattle.lus_explain.proofs.script.script_for.Goals as goal

pub returns-in-Ok-clause-answer : goal.returns-in-Ok-clause-answer
returns-in-Ok-clause-answer c =
    IfOk-weaker c.script_of.result _ _ (λ s of. is_of (program_of c.in-Ok.accepted) c.in-Ok.ensures.accepted of) c.script_of.ensures.answer

pub returns-in_ok-refused_program-in-Err-clause-answer : goal.returns-in_ok-refused_program-in-Err-clause-answer
returns-in_ok-refused_program-in-Err-clause-answer c =
    let refused = c.in_ok-refused_program-in-Err in
    let other = refused.ensures.other in
    is_refused refused.field-0 c.in-Err.refusal (other, c.in-Err.ensures.refused other) refused.ensures.status
