-- Bytes are refused as no text, or as the text that they are.
use Rattle.std.proofs.Common.{subst}
use Rattle.lus_cli.specs.MachineSpecs.Acceptance.{RefusedWith}
use Rattle.lus_cli.specs.HostSpecs.Sources.{is_no_text, is_refused}
use Rattle.lus_reports.proofs.explanation.explain.Goals as goal

pub returns-in-Err-clause-refused : goal.returns-in-Err-clause-refused
returns-in-Err-clause-refused c other = is_no_text c.in-Err.ensures.refused

pub returns-in-Err-compile-clause-refused : goal.returns-in-Err-compile-clause-refused
returns-in-Err-compile-clause-refused c other =
    is_refused c.in-Ok.ensures.short (subst (λ t. RefusedWith t c.in-Err-compile.refusal) c.in-Ok.ensures.same (c.in-Err-compile.ensures.first other))
