use Rattle.std.proofs.Common.{◌∙◌, ap, map}
use Rattle.std.proofs.lemmas.List.{take_all}
use Rattle.lus_syntax.specs.View.{equation_seen}
use Rattle.lus_values.proofs.Lists.{each_seen}
use Rattle.lus_source.specs.ScopeView.{scope_of}
use Rattle.lus_source.proofs.Faults.{passed_on}
use Rattle.lus_types.specs.Wholes.{EquationTyped}
use Rattle.lus_types.proofs.Numbering.{unnumbered_meant, equations_are_meant}
use Rattle.lus_types.proofs.nodes.equations.Goals as goal

pub returns-in_err-equation-clause-typed : goal.returns-in_err-equation-clause-typed
returns-in_err-equation-clause-typed c =
    let each = each_seen equation_seen (EquationTyped (scope_of c.args.scope.now)) c.args.sources.now c.loop-source.source-index c.source-item.result c.loop-source-test.true c.source-item.is in
    passed_on _ (λ wrong all. wrong (each all)) c.from_residual-in_err-equation.result c.in_err-equation.field-0.0 c.from_residual-in_err-equation.ensures.1 c.in_err-equation.ensures.typed

pub returns-clause-meant : goal.returns-clause-meant
returns-clause-meant c =
    let s = scope_of c.args.scope.now in
    equations_are_meant s 0 c.loop-source.equations.items (map equation_seen c.args.sources.now)
    (c.loop-source.invariant.meant ∙ ap (λ qs. map (unnumbered_meant s) (map equation_seen qs)) (take_all c.loop-source.source-index c.args.sources.now c.loop-source-test.false))
