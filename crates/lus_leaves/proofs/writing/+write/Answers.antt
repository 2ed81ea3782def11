use Rattle.std.proofs.Common.{◌≡◌, ◌∷◌, [], List, pos, length, map, take, arith, sym, ap, subst, ◌∙◌}
use Rattle.std.proofs.lemmas.List.{take_all}
use Rattle.lus_values.specs.declared.value.Value.{Value as StoredValue}
use Rattle.lus_values.specs.Values.{Value, struct, fields_of}
use Rattle.lus_values.specs.View.{value_of}
use Rattle.lus_values.proofs.Views.{struct_fields}
use Rattle.lus_leaves.specs.declared.leaf.Leaf.{Leaf}
use Rattle.lus_leaves.specs.Leaves.{leaf, value_leaves, fields_leaves}
use Rattle.lus_leaves.specs.Writing.{IsWritten}
use Rattle.lus_leaves.proofs.Leaves.{structure_leaves, fields_next}
use Rattle.lus_leaves.proofs.Writes.{written-more}
use Rattle.lus_leaves.proofs.writing.+write.Goals as goal

pub write-returns-in-Struct : goal.write-returns-in-Struct
write-returns-in-Struct t c =
    let whole : struct (fields_of (map value_of c.deref.result.now)) ≡ value_of c.args.value.now =
    ap (λ (l : List StoredValue). struct (fields_of (map value_of l))) c.deref.ensures.value ∙ sym (ap value_of c.in-Struct.is ∙ struct_fields c.in-Struct.fields) in
    subst (λ (v : Value). IsWritten c.args.leaves.now c.args.at (value_leaves v) c.write_structure.new.leaves c.write_structure.result) whole c.write_structure.ensures

pub write_structure-loop-field-init : goal.write_structure-loop-field-init
write_structure-loop-field-init t c =
    subst (λ (l : Leaf). IsWritten c.args.leaves.now c.args.at (l ∷ []) c.put-behind.new.leaves c.put-behind.result) c.head_of-head.ensures c.put-behind.ensures

pub write_structure-loop-field-preserved : goal.write_structure-loop-field-preserved
write_structure-loop-field-preserved t c =
    let vs = c.args.fields.now in let i = c.loop-field.field-index in
    let v : StoredValue = c.field-item.result in
    let head = leaf 4 0 (pos (length vs)) in
    subst (λ (ls : List Leaf). IsWritten c.args.leaves.now c.args.at (head ∷ ls) c.write-behind.new.leaves c.write-behind.result) (sym (fields_next vs i v (omega arith) c.field-item.is))
    (written-more _ _ (head ∷ fields_leaves (fields_of (map value_of (take i vs)))) _ _ (value_leaves (value_of v)) _ _ c.loop-field.invariant c.write-behind.ensures)

pub write_structure-returns : goal.write_structure-returns
write_structure-returns t c =
    let vs = c.args.fields.now in
    let whole : leaf 4 0 (pos (length vs)) ∷ fields_leaves (fields_of (map value_of (take c.loop-field.field-index vs))) ≡ value_leaves (struct (fields_of (map value_of vs))) =
    ap (λ (l : List StoredValue). leaf 4 0 (pos (length vs)) ∷ fields_leaves (fields_of (map value_of l))) (take_all c.loop-field.field-index vs (omega arith)) ∙ sym (structure_leaves vs) in
    subst (λ (ls : List Leaf). IsWritten c.args.leaves.now c.args.at ls c.loop-field.leaves c.loop-field.behind) whole c.loop-field.invariant
