-- The error of the refusal goes in front.
use Rattle.std.proofs.Common.{subst, sym}
use Rattle.lus_diagnostics.specs.Errors.{BeginWith}
use Rattle.lus_reports.proofs.diagnosing.errors_of.Goals as goal

pub returns-clause-first : goal.returns-clause-first
returns-clause-first c = subst (BeginWith c.args.refusal) (sym c.in_ok-insert.ensures.items) c.of_refusal.ensures
