-- Where the rows of a request have streams, or one of them isn't given on its clocks, none of them is refused for a fault.
use Rattle.std.proofs.Common.{◌≡◌, ◌∙◌, ◌≤◌, ℕ, suc, true, List, [], ◌∷◌, ◌++◌, length, take, IsTrue, is_some, None, ap, sym, refl, true≢false, arith, inl, inr, Bool, false, Option, Some, nat_lt}
use Rattle.std.proofs.lemmas.List.{length-map, length-take-le}
use Rattle.std.proofs.lemmas.Bool.{and_parts}
use Rattle.lus_values.specs.Lists.{item}
use Rattle.lus_values.specs.Values.{Row}
use Rattle.lus_program.specs.declared.types.Kind.{Kind}
use Rattle.lus_program.specs.Programs.{Node, Program, node_at}
use Rattle.lus_program.specs.Resolved.{Resolved, input_kinds}
use Rattle.lus_streams.specs.Clocks.{clock_of}
use Rattle.lus_streams.specs.Streams.{World, instant, nobody, is_on, Streams}
use Rattle.lus_streams.proofs.Worlds.{streams_past}
use Rattle.lus_requests.specs.declared.request.Request.{Request}
use Rattle.lus_requests.specs.declared.request.Request.TheVariants.{Step, Reset, Save, Restore, Burst}
use Rattle.lus_requests.specs.declared.request.Reply.TheVariants.{Refused}
use Rattle.lus_requests.specs.declared.request.Why.TheVariants.{Fault}
use Rattle.lus_simulation.specs.Fitting.{entry_fits, row_fits, has_shape, has_presence, same_truth}
use Rattle.lus_simulation.specs.Lineages.{Lineage}
use Rattle.lus_simulation.proofs.FittingRows.{below_true, one_truth}
use Rattle.lus_simulation.proofs.Lived.{formals_at}
use Rattle.lus_history.specs.Pasts.{Past, joined}
use Rattle.lus_history.specs.Replies.{slots, most_rows, answered, faulted, HasRefused, AnswersRows, save_reply, restore_reply, IsRightAfter}
use Rattle.lus_worlds.specs.Existing.{AreGiven}
use Rattle.lus_windows.specs.Reasons.{rows_in}

module _ (p : Program) where
  row_long : (ks : List Kind) (r : Row) → row_fits p ks r ≡ true → length r ≡ length ks
  row_long [] [] h = refl
  row_long [] (e ∷ r) h = absurd (true≢false (sym h))
  row_long (k ∷ ks) [] h = absurd (true≢false (sym h))
  row_long (k ∷ ks) (e ∷ r) h = ap suc (row_long ks r (and_parts (entry_fits p k e) (row_fits p ks r) h).1)

  module _ (resolved : Resolved p) (f : ℕ) where
    abbrev g : Node
    g = node_at p f

    wide : g.inputs ≤ length g.variables
    wide = let formals = formals_at p resolved f in omega (arith, formals)

    -- a row of the node's shape and presence is given on its clocks
    pub given_of : (i : Row) → IsTrue (has_shape p f i) → IsTrue (has_presence p f i) → AreGiven g i
    given_of i shape presence = record {
      count = row_long (input_kinds g) i shape ∙ length-map (take g.inputs g.variables) (λ v. v.kind) ∙ length-take-le g.inputs g.variables wide;
      there = λ x lt. one_truth (is_some (item None i x)) (is_on (clock_of g x) (instant true i nobody)) (below_true g.inputs (λ y. same_truth (is_some (item None i y)) (is_on (clock_of g y) (instant true i nobody))) presence x lt);
    }

  module _ (f : ℕ) where
    -- where rows have streams, so has what is before them
    before_rows : (l : Lineage) (rows : List Row) (w : World) → Streams p f (joined rows l) w → (v : World) × Streams p f l v
    before_rows l [] w s = (w, s)
    before_rows l (i ∷ rows) w s = let first = before_rows (i ∷ l) rows w s in let next = streams_past p f i l first.0 first.1 in (next.1, next.3)

    -- rows with streams
    pub none_refused : (l : Lineage) (rows : List Row) (w : World) → Streams p f (joined rows l) w → HasRefused p f l rows Fault → ⊥
    none_refused l [] w s refused = refused
    none_refused l (i ∷ rows) w s (inl (faulted shape presence none)) = let first = before_rows (i ∷ l) rows w s in none first.0 first.1
    none_refused l (i ∷ rows) w s (inr later) = none_refused (i ∷ l) rows w s later.2

  -- rows with streams, and one that isn't given and has none
  pub none_refused_past : Resolved p → (f : ℕ) (l : Lineage) (before after : List Row) (x : Row) (w : World) → Streams p f (joined before l) w → (AreGiven (node_at p f) x → ⊥) → ((v : World) → Streams p f (x ∷ joined before l) v → ⊥)
      → HasRefused p f l (before ++ x ∷ after) Fault → ⊥
  none_refused_past resolved f l [] after x w s off none (inl (faulted shape presence over)) = off (given_of resolved f x shape presence)
  none_refused_past resolved f l [] after x w s off none (inr (o, answered shape presence o' gives, later)) = none gives.world gives.streams
  none_refused_past resolved f l (i ∷ before) after x w s off none (inl (faulted shape presence over)) = let first = before_rows f (i ∷ l) before w s in over first.0 first.1
  none_refused_past resolved f l (i ∷ before) after x w s off none (inr later) = none_refused_past resolved f (i ∷ l) before after x w s off none later.2

-- where a request is rightly refused for a fault, one of its rows is
module _ (p : Program) (f : ℕ) where
  burst_refused : (long : Bool) (l : Lineage) (rows : List Row) → AnswersRows long p f l rows (Refused Fault) → HasRefused p f l rows Fault
  burst_refused true l rows h = absurd (cc)
  burst_refused false l rows h = h

  no_save : (b : Bool) → Refused Fault ≡ save_reply b → ⊥
  no_save true h = absurd (cc)
  no_save false h = absurd (cc)

  no_restore : (b : Bool) (saved : Option Lineage) → Refused Fault ≡ restore_reply b saved → ⊥
  no_restore false saved h = absurd (cc)
  no_restore true None h = absurd (cc)
  no_restore true (Some l) h = absurd (cc)

  pub refused_for : (past : Past) (request : Request) → IsRightAfter p f past request (Refused Fault) → HasRefused p f past.lineage (rows_in request) Fault
  refused_for past (Step i) h = inl h
  refused_for past Reset h = absurd (cc)
  refused_for past (Save n) h = absurd (no_save (nat_lt n slots) h)
  refused_for past (Restore n) h = absurd (no_restore (nat_lt n slots) (past.saved n) h)
  refused_for past (Burst rows) h = burst_refused (nat_lt most_rows (length rows)) past.lineage rows h
