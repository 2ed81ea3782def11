-- The constructors of one type behind those of the types before it.
use Rattle.std.proofs.Common.{arith, List, map, subst, sym}
use Rattle.std.proofs.lemmas.Grind.{common_steps}
use Rattle.lus_syntax.specs.declared.tree.TypeDeclaration.{TypeDeclaration as StoredType}
use Rattle.lus_syntax.specs.View.{type_seen}
use Rattle.lus_values.specs.Lists.{Each}
use Rattle.lus_values.proofs.Lists.{each_seen}
use Rattle.lus_source.specs.Sized.{DefinitionCounted}
use Rattle.lus_source.proofs.values.constructors.Goals as goal

pub push_constructors-requires : goal.push_constructors-requires
push_constructors-requires c =
    let counted = subst (λ (l : List StoredType). Each (λ d. DefinitionCounted d.definition) (map type_seen l)) (sym c.as_slice-declarations.ensures.value) c.tree.ensures.counted.definitions in
    record { counted = each_seen type_seen (λ d. DefinitionCounted d.definition) c.as_slice-declarations.result.now c.loop-place.place c.index-declarations-place.result c.loop-place-test.true c.index-declarations-place.is counted }

pub loop-place-preserved : goal.loop-place-preserved
loop-place-preserved c = grind (arith, common_steps)

pub returns : goal.returns
returns c = grind (arith, common_steps)
