use Rattle.std.proofs.Common.{◌≤◌, ℕ, List, length, take, arith, sym, subst}
use Rattle.std.proofs.lemmas.List.{take_all}
use Rattle.lus_values.specs.Values.{Row}
use Rattle.lus_leaves.specs.declared.leaf.Leaf.{Leaf}
use Rattle.lus_leaves.specs.Leaves.{row_leaves, rows_leaves}
use Rattle.lus_leaves.specs.Writing.{IsWritten}
use Rattle.lus_leaves.proofs.Leaves.{rows_next}
use Rattle.lus_leaves.proofs.Writes.{written-none, written-more, written-over, written-count, written-length}
use Rattle.lus_leaves.proofs.writing.write_rows.Goals as goal

pub loop-row-init : goal.loop-row-init
loop-row-init c = written-none c.args.leaves.now 0 (omega arith)

pub loop-row-preserved : goal.loop-row-preserved
loop-row-preserved c =
    let rows = c.args.rows.now in let i = c.loop-row.row-index in
    let row : Row = c.row-item.result in
    subst (λ (ls : List Leaf). IsWritten c.args.leaves.now 0 ls c.write_entries-at.new.leaves c.write_entries-at.result) (sym (rows_next rows i row (omega arith) c.row-item.is))
    (written-more _ _ (rows_leaves (take i rows)) _ _ (row_leaves row) _ _ c.loop-row.invariant c.write_entries-at.ensures)

whole : (ls : List Leaf) (i at : ℕ) (rows : List Row) (news : List Leaf) → length rows ≤ i → IsWritten ls 0 (rows_leaves (take i rows)) news at → IsWritten ls 0 (rows_leaves rows) news at
whole ls i at rows news h p = subst (λ (l : List Row). IsWritten ls 0 (rows_leaves l) news at) (take_all i rows h) p

pub returns-clause-written : goal.returns-clause-written
returns-clause-written c = written-over _ _ _ _ (omega arith) (whole _ c.loop-row.row-index _ c.args.rows.now _ (omega arith) c.loop-row.invariant)

pub returns-clause-count : goal.returns-clause-count
returns-clause-count c = written-count _ _ _ _ (whole _ c.loop-row.row-index _ c.args.rows.now _ (omega arith) c.loop-row.invariant)

pub returns-clause-length : goal.returns-clause-length
returns-clause-length c = written-length _ _ _ _ _ (omega arith) (whole _ c.loop-row.row-index _ c.args.rows.now _ (omega arith) c.loop-row.invariant)
