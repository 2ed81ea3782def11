-- One option behind the other.
use Rattle.std.proofs.Common.{◌∙◌, ap}
use Rattle.std.specs.Prelude.{codes}
use Rattle.std.proofs.lemmas.Result.{IfOk-weaker}
use Rattle.lus_cli.specs.CommandLine.{with_value}
use Rattle.lus_live.proofs.limits.with_limits.Goals as goal

pub returns : goal.returns
returns c = IfOk-weaker c.with_value-2.result _ _ (λ k e. e ∙ ap (with_value (codes "most-bytes")) c.in_ok-orders.ensures) c.with_value-2.ensures
