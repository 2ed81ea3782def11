use Rattle.std.proofs.Common.{◌≡◌, List, Option, map, take, arith, sym, ap, subst, ◌∙◌}
use Rattle.std.proofs.lemmas.List.{take_all}
use Rattle.lus_values.specs.declared.value.Value.{Value as StoredValue}
use Rattle.lus_values.specs.View.{entry_of}
use Rattle.lus_leaves.specs.declared.leaf.Leaf.{Leaf}
use Rattle.lus_leaves.specs.Leaves.{entry_leaves, row_leaves}
use Rattle.lus_leaves.specs.Writing.{IsWritten}
use Rattle.lus_leaves.proofs.Leaves.{entries_next}
use Rattle.lus_leaves.proofs.Writes.{written-none, written-more}
use Rattle.lus_leaves.proofs.writing.write_entries.Goals as goal

pub loop-entry-init : goal.loop-entry-init
loop-entry-init c = written-none c.args.leaves.now c.args.start (omega arith)

pub loop-entry-preserved : goal.loop-entry-preserved
loop-entry-preserved c =
    let es = c.items-entries.result.now in let i = c.loop-entry.entry-index in
    let e : Option StoredValue = c.entry-item.result in
    subst (λ (ls : List Leaf). IsWritten c.args.leaves.now c.args.start ls c.write_entry-at.new.leaves c.write_entry-at.result) (sym (entries_next es i e (omega arith) c.entry-item.is))
    (written-more _ _ (row_leaves (map entry_of (take i es))) _ _ (entry_leaves (entry_of e)) _ _ c.loop-entry.invariant c.write_entry-at.ensures)

pub returns : goal.returns
returns c =
    let es = c.items-entries.result.now in
    let whole : row_leaves (map entry_of (take c.loop-entry.entry-index es)) ≡ row_leaves c.args.row.now =
    ap (λ (l : List (Option StoredValue)). row_leaves (map entry_of l)) (take_all c.loop-entry.entry-index es (omega arith)) ∙ ap row_leaves c.items-entries.ensures in
    subst (λ (ls : List Leaf). IsWritten c.args.leaves.now c.args.start ls c.loop-entry.leaves c.loop-entry.at) whole c.loop-entry.invariant
