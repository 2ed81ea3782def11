-- Each declaration before this one is right.
use Rattle.std.proofs.Common.{map, take}
use Rattle.lus_values.specs.Lists.{Each}
use Rattle.lus_syntax.specs.View.{type_seen}
use Rattle.lus_source.specs.Named.{DefinitionNamed}
use Rattle.lus_source.specs.NameView.{texts}
use Rattle.lus_source.proofs.declarations.check_definitions.Given as goal

abbrev pub invariant-loop-declaration : goal.invariant-loop-declaration
invariant-loop-declaration l = Each (λ d. DefinitionNamed (texts l.names.types.keys) d.definition) (map type_seen (take l.declaration-index l.declarations))
