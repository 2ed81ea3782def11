-- A table that goes on by an entry.
use Rattle.std.proofs.Common.{◌≡◌, ◌∙◌, ◌++◌, ◌+◌, ap, arith, sym, refl, true, false, Bool, ℕ, List, [], ◌∷◌, length, map, append_assoc, append-nil}
use Rattle.lus_values.specs.Values.{Row}
use Rattle.lus_requests.specs.declared.request.Request.{Request}
use Rattle.lus_requests.specs.declared.request.Request.TheVariants as requests
use Rattle.lus_requests.specs.declared.request.Reply.{Reply}
use Rattle.lus_requests.specs.declared.request.Reply.TheVariants as replies
use Rattle.lus_diagrams.specs.Columns.{Column as PlainColumn, Noted, columns_from, columns_of, entry_columns, event_between, event_of, instants, lineage_after, lineage_behind, lineage_from, marked, newborn}
use Rattle.lus_diagrams.specs.ColumnView.{column_seen}
use Rattle.lus_diagrams.specs.Parts.{all_up_to, is_within, kept, part_behind, part_of, up_to}
use Rattle.lus_diagrams.specs.Tables.{HasNoted}
use Rattle.lus_diagrams.specs.declared.lineage.Lineage.{Lineage}
use Rattle.lus_diagrams.specs.declared.parts.Part.{Part}
use Rattle.lus_diagrams.specs.declared.table.Column.{Column}
use Rattle.lus_diagrams.specs.declared.table.Table.{Table}

columns_more : (l : Lineage) (es : List Noted) (e : Noted) → columns_from l (es ++ e ∷ []) ≡ columns_from l es ++ entry_columns (lineage_from l es) e
columns_more l [] e = append-nil (entry_columns l e)
columns_more l (d ∷ es) e =
    ap (λ cs. entry_columns l d ++ cs) (columns_more (lineage_after l d) es e)
    ∙ sym (append_assoc (entry_columns l d) (columns_from (lineage_after l d) es) (entry_columns (lineage_from (lineage_after l d) es) e))

lineage_more : (l : Lineage) (es : List Noted) (e : Noted) → lineage_from l (es ++ e ∷ []) ≡ lineage_after (lineage_from l es) e
lineage_more l [] e = refl
lineage_more l (d ∷ es) e = lineage_more (lineage_after l d) es e

kept_more : (b : Bool) (c : PlainColumn) (cs ds : List PlainColumn) → kept b c (cs ++ ds) ≡ kept b c cs ++ ds
kept_more true c cs ds = refl
kept_more false c cs ds = refl

-- the part of columns and further ones
part_more : (p : Part) (n : ℕ) (cs ds : List PlainColumn) → part_behind p n (cs ++ ds) ≡ part_behind p n cs ++ part_behind p (all_up_to n cs) ds
part_more p n [] ds = refl
part_more p n (c ∷ cs) ds =
    ap (kept (is_within p n c.head) c) (part_more p (up_to n c.head) cs ds)
    ∙ kept_more (is_within p n c.head) c (part_behind p (up_to n c.head) cs) (part_behind p (all_up_to (up_to n c.head) cs) ds)

all_more : (n : ℕ) (cs ds : List PlainColumn) → all_up_to n (cs ++ ds) ≡ all_up_to (all_up_to n cs) ds
all_more n [] ds = refl
all_more n (c ∷ cs) ds = all_more (up_to n c.head) cs ds

-- an event is no instant
all_marked : (n k : ℕ) (q : Request) (r : Reply) → all_up_to n (marked (event_between k q r)) ≡ n
all_marked n k (requests.Burst is) (replies.Rows os) = refl
all_marked n k requests.Reset replies.Done = refl
all_marked n k (requests.Save s) replies.Done = refl
all_marked n k (requests.Restore s) replies.Done = refl
all_marked n k _ _ = refl

all_instants : (n m : ℕ) (rs : List Row) → all_up_to n (instants m rs) ≡ n + length rs
all_instants n m [] = omega arith
all_instants n m (r ∷ rs) = let on = all_instants (n + 1) (m + 1) rs in omega (arith, on)

-- where the columns that are given are those of its event and then of its instants, so far as they are in the part
pub goes_on : (columns : List PlainColumn) (t u : Table) (es : List Noted) (e : Noted) (new : List Column) (n : ℕ)
    → map column_seen new
    ≡ part_behind t.part t.instants (marked (event_of e)) ++ part_behind t.part t.instants (instants t.lineage.count e.rows)
    → u.part ≡ t.part → u.instants ≡ t.instants + length e.rows
    → n ≡ t.lineage.count + length e.rows → u.lineage ≡ lineage_behind (record { count = n; saved = t.lineage.saved }) (event_of e)
    → HasNoted columns es t → HasNoted (columns ++ map column_seen new) (es ++ e ∷ []) u
goes_on columns t u es e new n given part places counted behind old =
    let ms = marked (event_of e) in
    let is = instants t.lineage.count e.rows in
    let all = columns_of es in
    let both : columns_of (es ++ e ∷ []) ≡ all ++ (ms ++ is) =
    columns_more newborn es e ∙ ap (λ l. all ++ entry_columns l e) (sym old.lineage) in
    let event : all_up_to t.instants ms ≡ t.instants = all_marked t.instants (length e.rows) e.request e.reply in
    record {
      columns_are =
          ap (λ ds. columns ++ ds)
          (given ∙ ap (λ m. part_behind t.part t.instants ms ++ part_behind t.part m is) (sym event) ∙ sym (part_more t.part t.instants ms is))
          ∙ (λ i. old.columns_are i ++ part_behind t.part (old.instants i) (ms ++ is))
          ∙ sym (part_more t.part 0 all (ms ++ is))
          ∙ ap (part_of t.part) (sym both)
          ∙ ap (λ p. part_of p (columns_of (es ++ e ∷ []))) (sym part);
      instants =
          places ∙ sym (all_instants t.instants t.lineage.count e.rows)
          ∙ ap (λ m. all_up_to m is) (sym event)
          ∙ sym (all_more t.instants ms is)
          ∙ ap (λ m. all_up_to m (ms ++ is)) old.instants
          ∙ sym (all_more 0 all (ms ++ is))
          ∙ ap (all_up_to 0) (sym both);
      lineage =
          behind ∙ ap (λ m. lineage_behind (record { count = m; saved = t.lineage.saved }) (event_of e)) counted
          ∙ ap (λ l. lineage_after l e) old.lineage
          ∙ sym (lineage_more newborn es e);
    }
