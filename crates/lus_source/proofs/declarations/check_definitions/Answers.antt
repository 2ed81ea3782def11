-- One wrong declaration breaks the rule of all.
use Rattle.lus_syntax.specs.View.{type_seen}
use Rattle.lus_source.specs.Named.{DefinitionNamed}
use Rattle.lus_source.specs.NameView.{texts}
use Rattle.lus_values.proofs.Lists.{each_seen}
use Rattle.lus_source.proofs.Faults.{passed_on}
use Rattle.lus_source.proofs.declarations.check_definitions.Goals as goal

pub returns-in_err-check_definition : goal.returns-in_err-check_definition
returns-in_err-check_definition c =
    let one = each_seen type_seen (λ d. DefinitionNamed (texts c.args.names.now.types.keys) d.definition) c.args.declarations.now c.loop-declaration.declaration-index c.declaration-item.result c.loop-declaration-test.true c.declaration-item.is in
    passed_on _ (λ refuted all. refuted (one all)) c.from_residual.result c.in_err-check_definition.field-0.0 c.from_residual.ensures.1 c.in_err-check_definition.ensures
