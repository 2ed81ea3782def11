use Rattle.std.proofs.Common.{◌∙◌, ap, arith}
use Rattle.std.proofs.lemmas.Grind.{common_steps}
use Rattle.std.proofs.lemmas.List.{take_all}
use Rattle.lus_syntax.specs.View.{names_seen}
use Rattle.lus_source.specs.Meaning.{targets_meant}
use Rattle.lus_source.specs.ScopeView.{scope_of}
use Rattle.lus_types.proofs.elaboration.equations.targets.Goals as goal

pub loop-name-preserved : goal.loop-name-preserved
loop-name-preserved c = grind (arith, common_steps)

pub returns : goal.returns
returns c =
    let all = take_all c.loop-name.name-index c.args.names.now (omega arith) in
    c.loop-name.invariant ∙ ap (λ ns. targets_meant (scope_of c.args.scope.now) (names_seen ns)) all
