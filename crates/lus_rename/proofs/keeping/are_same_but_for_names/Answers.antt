-- Both are accepted, or both refused.
use Rattle.std.proofs.Common.{refl}
use Rattle.std.proofs.lemmas.Result.{IfOk-weaker}
use Rattle.lus_machine.specs.CodeSpecs.Codes.{program_of}
use Rattle.lus_rename.specs.Renaming.{same_program, same_refusal}
use Rattle.lus_rename.proofs.keeping.are_same_but_for_names.Goals as goal

pub returns-in-Ok : goal.returns-in-Ok
returns-in-Ok c =
    IfOk-weaker c.is_same_program.result _ _
    (λ b same holds. same_program (program_of c.in-Ok.program) c.in-Ok.ensures.ok (same holds)) c.is_same_program.ensures

pub returns : goal.returns
returns c =
    IfOk-weaker c.is_refused_by.result _ _
    (λ b refused holds. same_refusal c.in-Err.refusal.number
    (c.in-Err.refusal, refl, c.in_default.not-Memory, c.in-Err.ensures.first c.in_default.not-Memory) (refused holds))
    c.is_refused_by.ensures
