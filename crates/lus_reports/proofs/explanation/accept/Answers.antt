-- Bytes are refused as no text, or as the text that they are.
use Rattle.std.proofs.Common.{subst}
use Rattle.lus_cli.specs.MachineSpecs.Acceptance.{AcceptedWith, RefusedWith}
use Rattle.lus_cli.specs.HostSpecs.Sources.{is_no_text, is_refused}
use Rattle.lus_reports.proofs.explanation.accept.Goals as goal

pub returns-in-Err-clause-refused : goal.returns-in-Err-clause-refused
returns-in-Err-clause-refused c other = is_no_text c.in-Err.ensures.refused

pub returns-in-Err-check-clause-refused : goal.returns-in-Err-check-clause-refused
returns-in-Err-check-clause-refused c other =
    is_refused c.in-Ok.ensures.short (subst (λ t. RefusedWith t c.in-Err-check.refusal) c.in-Ok.ensures.same (c.in-Err-check.ensures.first other))

pub returns-in-Ok-check-clause-accepted : goal.returns-in-Ok-check-clause-accepted
returns-in-Ok-check-clause-accepted c = subst (λ t. AcceptedWith t c.in-Ok-check.nodes) c.in-Ok.ensures.same c.in-Ok-check.ensures.ok
