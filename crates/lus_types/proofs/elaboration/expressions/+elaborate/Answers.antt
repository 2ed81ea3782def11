use Rattle.std.proofs.Common.{◌≡◌, ◌∙◌, ◌≤◌, add-one, ap, arith, length, map, refl, rules, sym, Some}
use Rattle.std.proofs.lemmas.Grind.{common_steps}
use Rattle.std.proofs.lemmas.List.{length-map, take_all}
use Rattle.lus_syntax.specs.View.{expression_seen, name_seen}
use Rattle.lus_syntax.proofs.TreeViews.{seen_call, seen_structure, seen_merge, seen_variadic}
use Rattle.lus_program.specs.declared.types.Kind.TheVariants as kinds
use Rattle.lus_program.specs.Programs.{merge}
use Rattle.lus_program.specs.View.{field_of}
use Rattle.lus_program.proofs.OperandViews.{seen_call as stored_call, seen_merge as stored_merge}
use Rattle.lus_source.proofs.Faults.{passed_on}
use Rattle.lus_source.specs.Labels.{fields_of}
use Rattle.lus_source.specs.Scopes.{entry}
use Rattle.lus_source.specs.Meaning.{all_meant, meant}
use Rattle.lus_source.specs.ScopeView.{scope_of}
use Rattle.lus_types.specs.Wholes.{parts_seen}
use Rattle.lus_types.proofs.Meant.{all_found, all_meant_is, call_found, call_gives_none, merge_is, structure_is, structure_untyped, merge_untyped, kinds_one_by_one, none_found, one_found, variadic_untyped}
use Rattle.lus_types.proofs.elaboration.expressions.+elaborate.Goals as goal

pub elaborate-returns-in-Call : goal.elaborate-returns-in-Call
elaborate-returns-in-Call t c =
    rw (ap expression_seen c.in-Call.is ∙ seen_call c.in-Call.name c.in-Call.arguments)
    (rw (c.deref.ensures, c.deref-in-Call.ensures.value) at c.call.ensures)

pub elaborate-returns-in-Structure : goal.elaborate-returns-in-Structure
elaborate-returns-in-Structure t c =
    rw (ap expression_seen c.in-Structure.is ∙ seen_structure c.in-Structure.name c.in-Structure.fields)
    (rw (c.deref-in-Structure.ensures, c.deref-in-Structure-2.ensures.value) at c.structure.ensures)

pub elaborate-returns-in-Merge : goal.elaborate-returns-in-Merge
elaborate-returns-in-Merge t c =
    rw (ap expression_seen c.in-Merge.is ∙ seen_merge c.in-Merge.field-0 c.in-Merge.variable c.in-Merge.branches)
    (rw (c.deref-in-Merge.ensures, c.deref-in-Merge-2.ensures.value) at c.merge.ensures)

pub elaborate-returns-in-Variadic : goal.elaborate-returns-in-Variadic
elaborate-returns-in-Variadic t c = rw (ap expression_seen c.in-Variadic.is ∙ seen_variadic c.in-Variadic.op c.in-Variadic.field-1 c.in-Variadic.arguments) (search rules)

pub whole_call-returns-in_err-operands : goal.whole_call-returns-in_err-operands
whole_call-returns-in_err-operands t c =
    let parts = parts_seen c.args.arguments.now in
    let s = scope_of c.args.scope.now in
    passed_on _ (call_gives_none s (name_seen c.args.name.now).text parts (all_meant s parts)) c.from_residual.result c.in_err-operands.field-0.0 c.from_residual.ensures.1 c.in_err-operands.ensures.elaborated

pub whole_call-returns : goal.whole_call-returns
whole_call-returns t c =
    let s = scope_of c.args.scope.now in
    let parts = parts_seen c.args.arguments.now in
    let means = c.in_ok-operands.ensures.elaborated in
    let is = sym (rw (c.deref.ensures.value, c.into_parts-exprs.ensures) at c.in-Some.ensures) in
    let found = call_found s (name_seen c.args.name.now).text parts (all_meant s parts) c.in_ok-operands.operands.kinds.items c.in-Some.node c.in-Some.outputs.now is in
    rw found.0 (rw (means.0, found.1) refl, c.in_ok-expr.ensures ∙ stored_call c.in-Some.node c.into_parts-exprs.result.0 ∙ search rules)

pub variadic-returns-in_err-operands : goal.variadic-returns-in_err-operands
variadic-returns-in_err-operands t c =
    let parts = parts_seen c.args.arguments.now in
    let s = scope_of c.args.scope.now in
    passed_on _ (variadic_untyped s c.args.op parts (all_meant s parts)) c.from_residual.result c.in_err-operands.field-0.0 c.from_residual.ensures.1 c.in_err-operands.ensures.elaborated

pub merge-returns-in_err-operands : goal.merge-returns-in_err-operands
merge-returns-in_err-operands t c =
    let untyped = merge_untyped (scope_of c.args.scope.now) (name_seen c.args.variable.now).text (parts_seen c.args.branches.now) in
    passed_on _ untyped c.from_residual.result c.in_err-operands.field-0.0 c.from_residual.ensures.1 c.in_err-operands.ensures.elaborated

pub merge-returns-in_default-merged : goal.merge-returns-in_default-merged
merge-returns-in_default-merged t c =
    let s = scope_of c.args.scope.now in
    let parts = parts_seen c.args.branches.now in
    let found = rw c.deref.ensures at c.in-Some.ensures in
    let out = rw c.size_of-size.ensures at c.in-Some-arranged.ensures in
    let is = merge_is s (name_seen c.args.variable.now).text parts (all_meant s parts) c.in-Some.clock c.in_ok-places.places.items (sym found) c.in_ok-places.ensures.places out.once in
    rw (is, (out.arranged s (all_meant s parts) c.in_ok-operands.ensures.elaborated).0) (search rules)

pub merge-returns : goal.merge-returns
merge-returns t c =
    let s = scope_of c.args.scope.now in
    let parts = parts_seen c.args.branches.now in
    let clock = c.in-Some.clock in
    let found = rw c.deref.ensures at c.in-Some.ensures in
    let out = rw c.size_of-size.ensures at c.in-Some-arranged.ensures in
    let is = merge_is s (name_seen c.args.variable.now).text parts (all_meant s parts) clock c.in_ok-places.places.items (sym found) c.in_ok-places.ensures.places out.once in
    let ordered = out.arranged s (all_meant s parts) c.in_ok-operands.ensures.elaborated in
    let typed = rw (c.deref-3.ensures.value, c.into_parts-exprs.ensures) at c.in-Some-merged.ensures in
    rw is (rw ordered.0 (sym typed), c.in_ok-expr.ensures ∙ stored_merge clock.place c.into_parts-exprs.result.0 ∙ rw c.into_parts-exprs.ensures (ap (merge clock.place) ordered.1))

pub structure-returns-in_err-operands : goal.structure-returns-in_err-operands
structure-returns-in_err-operands t c =
    let untyped = structure_untyped (scope_of c.args.scope.now) (name_seen c.args.name.now).text (parts_seen c.args.fields.now) in
    passed_on _ untyped c.from_residual.result c.in_err-operands.field-0.0 c.from_residual.ensures.1 c.in_err-operands.ensures.elaborated

pub structure-returns : goal.structure-returns
structure-returns t c =
    let s = scope_of c.args.scope.now in
    let parts = parts_seen c.args.fields.now in
    let u = c.in-Some-Struct.declaration in
    let sized : length c.fields_of-size.result.now ≡ length (fields_of s (kinds.Struct u)) = sym (length-map c.fields_of-size.result.now field_of) ∙ ap length c.fields_of-size.ensures.fields in
    let found = rw c.deref.ensures at c.in-Some-Struct.ensures in
    let named : entry s.types (name_seen c.args.name.now).text ≡ Some (kinds.Struct u) = sym found ∙ ap Some c.in-Some-Struct.field-0-is in
    let out = rw sized at c.in-Some.ensures in
    let is = structure_is s (name_seen c.args.name.now).text parts (all_meant s parts) u c.in_ok-places.places.items named c.in_ok-places.ensures.places out.once in
    let ordered = out.arranged s (all_meant s parts) c.in_ok-operands.ensures.elaborated in
    rw (is, ordered.0, ← ordered.1) (rw (c.deref-2.ensures.value, c.into_parts-exprs.ensures) at c.operated.ensures)

pub elaborate-returns-in_ok-operand-in-Field : goal.elaborate-returns-in_ok-operand-in-Field
elaborate-returns-in_ok-operand-in-Field t c =
    let operand = rw c.deref-in-Field.ensures at c.in_ok-operand-in-Field.ensures in
    rw (ap expression_seen c.in-Field.is) (c.projected.ensures _ operand)

pub elaborate-returns-in_ok-operand-in-When : goal.elaborate-returns-in_ok-operand-in-When
elaborate-returns-in_ok-operand-in-When t c =
    let operand = rw c.deref-in-When.ensures at c.in_ok-operand-in-When.ensures in
    let built = rw c.deref-in-When-2.ensures at c.sampled.ensures in
    rw (ap expression_seen c.in-When.is) (built _ operand)

pub elaborate-returns-in_ok-operand-in-Unary : goal.elaborate-returns-in_ok-operand-in-Unary
elaborate-returns-in_ok-operand-in-Unary t c =
    let operand = rw c.deref-in-Unary.ensures at c.in_ok-operand-in-Unary.ensures in
    rw (ap expression_seen c.in-Unary.is) (c.prefixed.ensures _ operand)

pub elaborate_infix-returns : goal.elaborate_infix-returns
elaborate_infix-returns t c = c.infixed.ensures _ _ c.in_ok-left.ensures c.in_ok-right.ensures

pub elaborate_if-returns : goal.elaborate_if-returns
elaborate_if-returns t c = c.chosen.ensures _ _ _ c.in_ok-condition.ensures c.in_ok-left.ensures c.in_ok-right.ensures

pub elaborate_all-returns-clause-elaborated : goal.elaborate_all-returns-clause-elaborated
elaborate_all-returns-clause-elaborated t c =
    let s = scope_of c.args.scope.now in
    let parts = c.args.parts.now in
    let n = c.loop-part.part-index in
    let old = c.loop-part.invariant in
    let past : length parts ≤ n = omega arith in
    let same = old.meant ∙ ap (map (λ p. meant s (expression_seen p.value))) (take_all n parts past) in
    (all_found _ _ (kinds_one_by_one s) parts n c.loop-part.operands.kinds.items _ old.typed past, all_meant_is s parts c.loop-part.operands.exprs.items same)

pub elaborate_all-loop-part-preserved : goal.elaborate_all-loop-part-preserved
elaborate_all-loop-part-preserved t c =
    let n = c.loop-part.part-index in
    let each = kinds_one_by_one (scope_of c.args.scope.now) in
    let typed = one_found _ _ each c.args.parts.now n c.loop-part.operands.kinds.items _ c.loop-part.invariant.typed c.part-item.result c.part-item.is c.loop-part-test.true c.in_ok-operand.operand.kind c.in_ok-operand.ensures.0 in
    record {
      typed = rw (c.in_ok-push.ensures.kinds, add-one n) typed;
      meant = grind (arith, common_steps);
      exprs = grind (arith, common_steps);
      kinds = grind (arith, common_steps);
    }

pub elaborate_all-returns-in_err-operand-clause-elaborated : goal.elaborate_all-returns-in_err-operand-clause-elaborated
elaborate_all-returns-in_err-operand-clause-elaborated t c =
    let each = kinds_one_by_one (scope_of c.args.scope.now) in
    let untyped = none_found _ _ each c.args.parts.now c.loop-part.part-index c.loop-part.operands.kinds.items _ c.loop-part.invariant.typed c.part-item.result c.part-item.is c.loop-part-test.true in
    passed_on _ untyped c.from_residual-in_err-operand.result c.in_err-operand.field-0.0 c.from_residual-in_err-operand.ensures.1 c.in_err-operand.ensures
