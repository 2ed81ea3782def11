-- A run's histories have of each entry what its reply means, and its program has unique streams.
use Rattle.std.proofs.Common.{◌≡◌, ℕ, Bool, true, false, nat_lt, List, [], ◌∷◌, ◌++◌, length, inl, inr, sym, subst, append_assoc, append-nil}
use Rattle.std.specs.List.{AllZip}
use Rattle.lus_values.specs.Values.{Row}
use Rattle.lus_program.specs.Programs.{Program}
use Rattle.lus_requests.specs.declared.request.Entry.{Entry}
use Rattle.lus_requests.specs.declared.request.Request.{Request}
use Rattle.lus_requests.specs.declared.request.Request.TheVariants.{Step, Reset, Save, Restore, Burst}
use Rattle.lus_requests.specs.declared.request.Reply.{Reply}
use Rattle.lus_requests.specs.declared.request.Reply.TheVariants.{Outputs, Rows, Done, Refused}
use Rattle.lus_requests.specs.declared.request.Why.TheVariants.{Shape, Presence, Fault, NoSave}
use Rattle.lus_callers.specs.CodeSpecs.SimulationSpecs.Lineages.{Lineage, Gives}
use Rattle.lus_callers.specs.HistorySpecs.Histories.{History, Right, empty, more}
use Rattle.lus_callers.specs.HistorySpecs.Pasts.{Past, lineage, past_of}
use Rattle.lus_callers.specs.HistorySpecs.Replies.{AnswersRows, AnswersStep, GiveOutputs, HasRefused, IsRightAfter, answered, faulted, misplaced, misshapen, most_rows}
use Rattle.lus_callers.specs.MachineSpecs.Acceptance.{Accepted}
use Rattle.lus_devices.specs.Devices.{Bytes}
use Rattle.lus_host.specs.Headline.{BurstFaults, BurstGives, EachAfter, FaultsRightly, GivesLast, Headline, RowHasNone, RowsGive, StepFaults, StepGives}
use Rattle.lus_host.specs.Runs.{Ran}

-- ---- one entry

module _ (p : Program) (f : ℕ) where
  step_gives : (l : Lineage) (i : Row) (a : Reply) → AnswersStep p f l i a → StepGives p f l i a
  step_gives l i _ (misshapen s) = tt
  step_gives l i _ (misplaced s m) = tt
  step_gives l i _ (answered s m o g) = g
  step_gives l i _ (faulted s m n) = tt

  step_faults : (l : Lineage) (i : Row) (a : Reply) → AnswersStep p f l i a → StepFaults p f l i a
  step_faults l i _ (misshapen s) = tt
  step_faults l i _ (misplaced s m) = tt
  step_faults l i _ (answered s m o g) = tt
  step_faults l i _ (faulted s m n) = n

  rows_give : (l : Lineage) (rows outputs : List Row) → GiveOutputs p f l rows outputs → RowsGive p f l rows outputs
  rows_give l [] [] h = tt
  rows_give l [] (o ∷ outputs) h = absurd h
  rows_give l (i ∷ rows) [] h = absurd h
  rows_give l (i ∷ rows) (o ∷ outputs) h = (step_gives l i (Outputs o) h.0, rows_give (i ∷ l) rows outputs h.1)

  row_has_none : (l : Lineage) (rows : List Row) → HasRefused p f l rows Fault → RowHasNone p f l rows
  row_has_none l [] h = absurd h
  row_has_none l (i ∷ rows) (inl h) = inl (step_faults l i (Refused Fault) h)
  row_has_none l (i ∷ rows) (inr (o, g, h)) = inr (o, step_gives l i (Outputs o) g, row_has_none (i ∷ l) rows h)

  burst_gives : (long : Bool) (l : Lineage) (rows : List Row) (a : Reply) → AnswersRows long p f l rows a → BurstGives p f l rows a
  burst_gives true l rows a h = subst (BurstGives p f l rows) (sym h) tt
  burst_gives false l rows (Rows outputs) h = rows_give l rows outputs h
  burst_gives false l rows (Outputs o) h = tt
  burst_gives false l rows Done h = tt
  burst_gives false l rows (Refused w) h = tt

  burst_faults : (long : Bool) (l : Lineage) (rows : List Row) (a : Reply) → AnswersRows long p f l rows a → BurstFaults p f l rows a
  burst_faults true l rows a h = subst (BurstFaults p f l rows) (sym h) tt
  burst_faults false l rows (Rows outputs) h = tt
  burst_faults false l rows (Outputs o) h = tt
  burst_faults false l rows Done h = tt
  burst_faults false l rows (Refused Shape) h = tt
  burst_faults false l rows (Refused Presence) h = tt
  burst_faults false l rows (Refused Fault) h = row_has_none l rows h
  burst_faults false l rows (Refused NoSave) h = tt

  gives_last : (past : Past) (request : Request) (a : Reply) → IsRightAfter p f past request a → GivesLast p f past.lineage request a
  gives_last past (Step i) a h = step_gives past.lineage i a h
  gives_last past (Burst rows) a h = burst_gives (nat_lt most_rows (length rows)) past.lineage rows a h
  gives_last past Reset a h = tt
  gives_last past (Save n) a h = tt
  gives_last past (Restore n) a h = tt

  faults_rightly : (past : Past) (request : Request) (a : Reply) → IsRightAfter p f past request a → FaultsRightly p f past.lineage request a
  faults_rightly past (Step i) a h = step_faults past.lineage i a h
  faults_rightly past (Burst rows) a h = burst_faults (nat_lt most_rows (length rows)) past.lineage rows a h
  faults_rightly past Reset a h = tt
  faults_rightly past (Save n) a h = tt
  faults_rightly past (Restore n) a h = tt

  -- ---- each entry

  module _ (P : List Entry → Entry → Type 0) (means : (before : List Entry) (e : Entry) → Right p f before e.request e.reply → P before e) where
    one_more_holds : (before h : List Entry) (e : Entry) → EachAfter P before h → P (before ++ h) e → EachAfter P before (h ++ e ∷ [])
    one_more_holds before [] e each last = (subst (λ b. P b e) (append-nil before) last, tt)
    one_more_holds before (d ∷ h) e each last =
        (each.0, one_more_holds (before ++ d ∷ []) h e each.1 (subst (λ b. P b e) (sym (append_assoc before (d ∷ []) h)) last))

    each_holds : (h : List Entry) → History p f h → EachAfter P [] h
    each_holds _ empty = tt
    each_holds _ (more h e legal right) = one_more_holds [] h e (each_holds h legal) (means h e right)

each_pair : {A B : Type 0} (R S : A → B → Type 0) → ((x : A) (y : B) → R x y → S x y) → (xs : List A) (ys : List B) → AllZip R xs ys → AllZip S xs ys
each_pair R S f [] [] h = tt
each_pair R S f [] (y ∷ ys) h = absurd h
each_pair R S f (x ∷ xs) [] h = absurd h
each_pair R S f (x ∷ xs) (y ∷ ys) h = (f x y h.0, each_pair R S f xs ys h.1)

pub headline : ((text : Bytes) (p : Program) → Accepted text p → (f : ℕ) (l : Lineage) (o o' : Row) (one : Gives p f l o) (other : Gives p f l o') → one.world ≡ other.world)
    → (text bytes : Bytes) (done : Bool) (journals : Bytes) → Ran text bytes done journals → Headline text bytes done journals
headline unique text bytes done journals r = record {
  program = r.program;
  accepted = r.accepted;
  scripts = r.scripts;
  read = r.read;
  histories = r.histories;
  history = r.legal.legal;
  outputs = each_pair _ _ (λ i h legal. each_holds r.program i.place (λ before e. GivesLast r.program i.place (lineage before) e.request e.reply)
      (λ before e right. gives_last r.program i.place (past_of before) e.request e.reply right) h legal) r.scripts.instances r.histories r.legal.legal;
  unique = unique text r.program r.accepted;
  faults = each_pair _ _ (λ i h legal. each_holds r.program i.place (λ before e. FaultsRightly r.program i.place (lineage before) e.request e.reply)
      (λ before e right. faults_rightly r.program i.place (past_of before) e.request e.reply right) h legal) r.scripts.instances r.histories r.legal.legal;
  shares = r.legal.shares;
  shared = r.legal.shared;
  entries = r.legal.entries;
  whole = r.legal.whole;
  all = r.legal.all;
  count = r.legal.count;
  entered = r.legal.served;
  written = r.text_is;
}
