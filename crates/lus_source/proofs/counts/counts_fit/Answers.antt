use Rattle.std.proofs.Common.{◌≡◌, ◌∙◌, ◌+◌, ◌≤◌, ◌++◌, ◌∷◌, [], ap, map, subst, sym, take}
use Rattle.std.proofs.lemmas.List.{map_more}
use Rattle.lus_syntax.specs.View.{definition_seen, node_seen, type_seen}
use Rattle.lus_values.specs.Lists.{Each}
use Rattle.lus_source.specs.Sized.{DefinitionCounted, variable_count}
use Rattle.lus_source.specs.Tables.{groups}
use Rattle.lus_values.proofs.Lists.{each_append, each_seen}
use Rattle.lus_source.proofs.Counting.{refuted}
use Rattle.lus_source.proofs.counts.counts_fit.Goals as goal

pub returns-then-not-is_counted-clause-err : goal.returns-then-not-is_counted-clause-err
returns-then-not-is_counted-clause-err c = λ counted.
    let types = c.deref-declaration-items.result.now in
    let all : Each (λ d. DefinitionCounted d.definition) (map type_seen types) = rw c.deref-declaration-items.ensures.value counted.definitions in
    let one = each_seen type_seen (λ d. DefinitionCounted d.definition) types c.loop-declaration.declaration-index c.declaration-item.result c.loop-declaration-test.true c.declaration-item.is all in
    refuted c.is_counted.result (DefinitionCounted (definition_seen c.declaration-item.result.definition)) c.is_counted.ensures c.if-not-is_counted.true one

pub returns-then-not-has_few_variables-clause-err : goal.returns-then-not-has_few_variables-clause-err
returns-then-not-has_few_variables-clause-err c = λ counted.
    let nodes = c.deref-node-items.result.now in
    let all : Each (λ f. variable_count (groups f) ≤ 1000) (map node_seen nodes) = rw c.deref-node-items.ensures.value counted.variables in
    let one = each_seen node_seen (λ f. variable_count (groups f) ≤ 1000) nodes c.loop-node.node-index c.node-item.result c.loop-node-test.true c.node-item.is all in
    refuted c.has_few_variables.result (variable_count (groups (node_seen c.node-item.result)) ≤ 1000) c.has_few_variables.ensures c.if-not-has_few_variables.true one

pub loop-declaration-preserved : goal.loop-declaration-preserved
loop-declaration-preserved c =
    let types = c.deref-declaration-items.result.now in
    let i = c.loop-declaration.declaration-index in
    let x = c.declaration-item.result in
    let before = map type_seen (take i types) in
    let grown : map type_seen (take (i + 1) types) ≡ before ++ type_seen x ∷ [] = map_more type_seen types i x c.loop-declaration-test.true ∙ ap (λ y. before ++ type_seen y ∷ []) (sym c.declaration-item.is) in
    let one = c.is_counted.ensures.0 c.if-not-is_counted.false in
    subst (Each (λ d. DefinitionCounted d.definition)) (sym grown) (each_append (λ d. DefinitionCounted d.definition) before (type_seen x ∷ []) c.loop-declaration.invariant (one, tt))

pub loop-node-preserved : goal.loop-node-preserved
loop-node-preserved c =
    let nodes = c.deref-node-items.result.now in
    let i = c.loop-node.node-index in
    let x = c.node-item.result in
    let before = map node_seen (take i nodes) in
    let grown : map node_seen (take (i + 1) nodes) ≡ before ++ node_seen x ∷ [] = map_more node_seen nodes i x c.loop-node-test.true ∙ ap (λ y. before ++ node_seen y ∷ []) (sym c.node-item.is) in
    let one = c.has_few_variables.ensures.0 c.if-not-has_few_variables.false in
    subst (Each (λ f. variable_count (groups f) ≤ 1000)) (sym grown) (each_append (λ f. variable_count (groups f) ≤ 1000) before (node_seen x ∷ []) c.loop-node.invariant (one, tt))
