-- Bytes are refused as no text, or as the text that they are.
use Rattle.std.proofs.Common.{subst}
use Rattle.std.proofs.lemmas.Result.{IfErr-weaker}
use Rattle.lus_callers.specs.MachineSpecs.Acceptance.{RefusedWith}
use Rattle.lus_host.specs.Sources.{is_no_text, is_refused}
use Rattle.lus_host.proofs.program.count_of.Goals as goal

pub returns-in-Ok-clause-refused : goal.returns-in-Ok-clause-refused
returns-in-Ok-clause-refused c = IfErr-weaker c.check.result _ _ (λ e first h. is_refused c.in-Ok.ensures.short (subst (λ t. RefusedWith t e) c.in-Ok.ensures.same (first h))) c.check.ensures.first

pub returns-in-Err-clause-refused : goal.returns-in-Err-clause-refused
returns-in-Err-clause-refused c = λ h. is_no_text c.in-Err.ensures.refused
