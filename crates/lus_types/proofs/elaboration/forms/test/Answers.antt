use Rattle.std.proofs.Common.{◌∙◌, ap, sym, is_some}
use Rattle.lus_syntax.specs.View.{test_seen}
use Rattle.lus_source.specs.ScopeView.{scope_of}
use Rattle.lus_types.proofs.Meant.{unplaced_fails}
use Rattle.lus_types.proofs.elaboration.forms.test.Goals as goal

pub returns-in_err-test-clause-fits : goal.returns-in_err-test-clause-fits
returns-in_err-test-clause-fits c =
    ap is_some c.from_residual.ensures ∙ sym (unplaced_fails (scope_of c.args.scope.now) (test_seen c.args.source.now) (sym c.in_err-test.ensures))
