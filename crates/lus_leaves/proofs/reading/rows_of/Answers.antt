use Rattle.std.proofs.Common.{◌≡◌, ◌++◌, ◌/◌, ℕ, List, [], Option, length, map, reverse, refl, sym, ap, subst, ◌∙◌, arith}
use Rattle.std.proofs.lemmas.Grind.{common_steps}
use Rattle.std.proofs.lemmas.List.{append-nil, length_push, length-map, length-reverse, reverse-reverse}
use Rattle.std.proofs.lemmas.List.Elements.{All-nil, All-push}
use Rattle.lus_values.specs.declared.value.Value.{Value as StoredValue}
use Rattle.lus_values.specs.Values.{Row}
use Rattle.lus_leaves.specs.Leaves.{row_leaves, rows_leaves}
use Rattle.lus_leaves.proofs.Leaves.{rows_more}
use Rattle.lus_values.specs.View.{entry_of}
use Rattle.lus_leaves.specs.Fits.{EntryFits, RowFits}
use Rattle.lus_leaves.proofs.OnlyRows.{by_recursion_more, by_recursion_left, by_recursion_right, OnlyRow, RowsGoOn, rows_none, rows_first, rows_more as only_more, rows_short, rows_last}
use Rattle.lus_leaves.proofs.reading.rows_of.Goals as goal

pub loop-row-preserved : goal.loop-row-preserved
loop-row-preserved c =
    let row : Row = c.in-Some-2.row in
    let told = rw c.in-Some-2.is at c.in_ok-row.ensures.leaves in
    let all = subst RowFits told.1 c.loop-row.invariant.left_fits in
    record {
      count_is = rw c.in_ok-push.ensures.items (omega (arith, length_push c.loop-row.rows.items row, c.loop-row.invariant.count_is));
      even = rw c.in_ok-push.ensures.items (All-push (λ (r : Row). length r ≡ c.width_of-width.result) c.loop-row.rows.items row c.loop-row.invariant.even told.0);
      fits = rw c.in_ok-push.ensures.items (by_recursion_more RowFits c.loop-row.rows.items row c.loop-row.invariant.fits (by_recursion_left (EntryFits 64) row _ all));
      left_fits = by_recursion_right (EntryFits 64) row _ all;
      only = rw c.in_ok-push.ensures.items (only_more c.args.leaves.now c.args.count c.width_of-width.result c.loop-row.rows.items _ row _ (omega (arith, c.loop-row.invariant.count_is)) c.loop-row.invariant.only told.1 told.0);
      leaves = rw c.in_ok-push.ensures.items (rows_more c.args.leaves.now c.loop-row.rows.items row _ _ c.loop-row.invariant.leaves told.1);
    }

pub returns-in_default-clause-only : goal.returns-in_default-clause-only
returns-in_default-clause-only c = λ rows h few a. rows_none c.args.leaves.now c.args.count (subst (OnlyRow c.args.leaves.now) c.in_default.is c.in_ok-entries.ensures.only) rows h a

pub loop-row-init : goal.loop-row-init
loop-row-init c =
    let ls = c.args.leaves.now in let es = c.in-Some.entries.items in
    let told = rw c.in-Some.is at c.in_ok-entries.ensures.leaves in
    let fit = rw c.in-Some.is at c.in_ok-entries.ensures.fits in
    let only = subst (OnlyRow ls) c.in-Some.is c.in_ok-entries.ensures.only in
    let back : map entry_of (reverse c.reverse.new.self.items) ≡ map entry_of es = ap (λ (l : List (Option StoredValue)). map entry_of (reverse l)) c.reverse.ensures.items ∙ ap (map entry_of) (reverse-reverse es) in
    rw c.new-rows.ensures.items record {
      count_is = refl;
      even = All-nil _;
      fits = tt;
      left_fits = subst RowFits (sym back) fit;
      only = subst (RowsGoOn ls c.args.count c.width_of-width.result []) (sym back) (rows_first ls c.args.count c.width_of-width.result (map entry_of es) only
          (λ some. c.width_of-width.ensures some ∙ ap (λ (n : ℕ). n / c.args.count) (omega (arith, c.len.ensures, length-map es entry_of))));
      leaves = ap row_leaves back ∙ told;
    }

pub returns-in_default-2-clause-only : goal.returns-in_default-2-clause-only
returns-in_default-2-clause-only c = λ rows h few a.
    let es = c.loop-row.entries.items in
    rows_short c.args.leaves.now c.args.count c.width_of-width.result c.loop-row.rows.items (map entry_of (reverse es)) (omega (arith, c.loop-row.invariant.count_is)) c.loop-row.invariant.only
    (omega (arith, length-map (reverse es) entry_of, length-reverse es, rw c.in_default-2.is at c.in_ok-row.ensures.short)) rows h a

pub returns-then-is_empty-clause-leaves : goal.returns-then-is_empty-clause-leaves
returns-then-is_empty-clause-leaves c =
    let none : c.loop-row.entries.items ≡ [] = grind (arith, common_steps) in
    record {
      leaves = sym (append-nil _) ∙ subst (λ (es : List (Option StoredValue)). rows_leaves c.loop-row.rows.items ++ row_leaves (map entry_of (reverse es)) ≡ c.args.leaves.now) none c.loop-row.invariant.leaves;
      count_is = omega (arith, c.loop-row.invariant.count_is);
      even = (c.width_of-width.result, c.loop-row.invariant.even);
    }

pub returns-clause-only : goal.returns-clause-only
returns-clause-only c = λ rows h few a.
    let es = c.loop-row.entries.items in
    let last = rows_last c.args.leaves.now c.args.count c.width_of-width.result c.loop-row.rows.items (map entry_of (reverse es)) (omega (arith, c.loop-row.invariant.count_is)) c.loop-row.invariant.only rows h a in
    let none : length es ≡ 0 = omega (arith, ap length last.1, length-map (reverse es) entry_of, length-reverse es) in
    grind (arith, common_steps)
