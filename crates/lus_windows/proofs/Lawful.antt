-- For the lineage that entries of a history leave there are streams.
use Rattle.std.proofs.Common.{◌≡◌, ◌&&◌, ℕ, Bool, true, false, nat_eq, nat_lt, List, [], ◌∷◌, ◌++◌, length, Option, Some, None, IsTrue, refl, subst}
use Rattle.lus_values.specs.Values.{Row}
use Rattle.lus_program.specs.Programs.{Program}
use Rattle.lus_requests.specs.declared.request.Request.{Request}
use Rattle.lus_requests.specs.declared.request.Request.TheVariants.{Step, Reset, Save, Restore, Burst}
use Rattle.lus_requests.specs.declared.request.Reply.{Reply}
use Rattle.lus_requests.specs.declared.request.Reply.TheVariants.{Outputs, Rows, Done, Refused}
use Rattle.lus_requests.specs.declared.request.Entry.{Entry}
use Rattle.lus_streams.specs.Streams.{World, Streams}
use Rattle.lus_simulation.specs.Lineages.{Lineage}
use Rattle.lus_history.specs.Pasts.{Past, lineage, beginning, saved_or, joined, after, after_all}
use Rattle.lus_history.specs.Replies.{slots, most_rows, GiveOutputs, AnswersRows, AnswersStep, misshapen, misplaced, answered, faulted, restore_reply, IsRightAfter}
use Rattle.lus_history.specs.Histories.{History, empty, more}
use Rattle.lus_windows.specs.Windows.{HaveNoStreams, has_slot, have_slots}

module _ (p : Program) (f : ℕ) where
  abbrev Has : Lineage → Type 0
  Has l = (w : World) × Streams p f l w

  abbrev HasSaved : Option Lineage → Type 0
  HasSaved None = Unit {0}
  HasSaved (Some l) = Has l

  abbrev HasPast : Past → Type 0
  HasPast past = Has past.lineage × ((n : ℕ) → HasSaved (past.saved n))

  -- for what was accepted
  abbrev HasStep : Lineage → Row → Reply → Type 0
  HasStep l i (Outputs o) = Has (i ∷ l)
  HasStep l i _ = Unit {0}

  step_has : (l : Lineage) (i : Row) (a : Reply) → AnswersStep p f l i a → HasStep l i a
  step_has l i _ (misshapen s) = tt
  step_has l i _ (misplaced s v) = tt
  step_has l i _ (answered s v o g) = (g.world, g.streams)
  step_has l i _ (faulted s v m) = tt

  rows_have : (l : Lineage) (rows outputs : List Row) → Has l → GiveOutputs p f l rows outputs → Has (joined rows l)
  rows_have l [] [] has h = has
  rows_have l [] (o ∷ outputs) has h = absurd h
  rows_have l (i ∷ rows) [] has h = absurd h
  rows_have l (i ∷ rows) (o ∷ outputs) has h = rows_have (i ∷ l) rows outputs (step_has l i (Outputs o) h.0) h.1

  burst_has : (long : Bool) (l : Lineage) (rows outputs : List Row) → Has l → AnswersRows long p f l rows (Rows outputs) → Has (joined rows l)
  burst_has true l rows outputs has h = absurd (cc)
  burst_has false l rows outputs has h = rows_have l rows outputs has h

  saved_has : (b : Bool) (l : Lineage) (o : Option Lineage) → Has l → HasSaved o → HasSaved (elim b [ true ↦ Some l | false ↦ o ])
  saved_has true l o has h = has
  saved_has false l o has h = h

  restored_has : (l : Lineage) (o : Option Lineage) → Has l → HasSaved o → Has (saved_or l o)
  restored_has l None has h = has
  restored_has l (Some saved) has h = h

  after_has : (past : Past) (r : Request) (a : Reply) → HasPast past → IsRightAfter p f past r a → HasPast (after past r a)
  after_has past (Step i) (Outputs o) has h = (step_has past.lineage i (Outputs o) h, has.1)
  after_has past (Step i) (Rows o) has h = has
  after_has past (Step i) Done has h = has
  after_has past (Step i) (Refused w) has h = has
  after_has past Reset (Outputs o) has h = has
  after_has past Reset (Rows o) has h = has
  after_has past Reset Done has h = (([], record { satisfied = tt; always = tt; rows = refl }), has.1)
  after_has past Reset (Refused w) has h = has
  after_has past (Save m) (Outputs o) has h = has
  after_has past (Save m) (Rows o) has h = has
  after_has past (Save m) Done has h = (has.0, (λ n. saved_has (nat_eq n m) past.lineage (past.saved n) has.0 (has.1 n)))
  after_has past (Save m) (Refused w) has h = has
  after_has past (Restore m) (Outputs o) has h = has
  after_has past (Restore m) (Rows o) has h = has
  after_has past (Restore m) Done has h = (restored_has past.lineage (past.saved m) has.0 (has.1 m), has.1)
  after_has past (Restore m) (Refused w) has h = has
  after_has past (Burst rows) (Rows o) has h = (burst_has (nat_lt most_rows (length rows)) past.lineage rows o has.0 h, has.1)
  after_has past (Burst rows) (Outputs o) has h = has
  after_has past (Burst rows) Done has h = has
  after_has past (Burst rows) (Refused w) has h = has

  -- no slot is restored that there isn't
  done_in : (b : Bool) (o : Option Lineage) → Done ≡ restore_reply b o → b ≡ true
  done_in true o h = refl
  done_in false o h = absurd (cc)

  slot_is : (past : Past) (r : Request) (a : Reply) → IsRightAfter p f past r a → IsTrue (has_slot r a)
  slot_is past (Restore m) Done h = done_in (nat_lt m slots) (past.saved m) h
  slot_is past (Restore m) (Outputs o) h = refl
  slot_is past (Restore m) (Rows o) h = refl
  slot_is past (Restore m) (Refused w) h = refl
  slot_is past (Step i) a h = refl
  slot_is past Reset a h = refl
  slot_is past (Save m) a h = refl
  slot_is past (Burst rows) a h = refl

  -- each reply is right, from the first entry on
  abbrev AllRight : Past → List Entry → Type 0
  AllRight past [] = Unit {0}
  AllRight past (e ∷ h) = IsRightAfter p f past e.request e.reply × AllRight (after past e.request e.reply) h

  right_more : (past : Past) (h : List Entry) (e : Entry) → AllRight past h → IsRightAfter p f (after_all past h) e.request e.reply → AllRight past (h ++ e ∷ [])
  right_more past [] e all right = (right, tt)
  right_more past (d ∷ h) e all right = (all.0, right_more (after past d.request d.reply) h e all.1 right)

  all_right : (h : List Entry) → History p f h → AllRight beginning h
  all_right _ empty = tt
  all_right _ (more h e is right) = right_more beginning h e (all_right h is) right

  front_has : (past : Past) (front behind : List Entry) → HasPast past → AllRight past (front ++ behind) → HasPast (after_all past front) × IsTrue (have_slots front)
  front_has past [] behind has all = (has, refl)
  front_has past (e ∷ front) behind has all =
      let slot = slot_is past e.request e.reply all.0 in
      let rest = front_has (after past e.request e.reply) front behind (after_has past e.request e.reply has all.0) all.1 in
      (rest.0, (λ j. slot j && rest.1 j))

  pub history_has : (h front behind : List Entry) → History p f h → h ≡ front ++ behind → Has (lineage front) × IsTrue (have_slots front)
  history_has h front behind is same =
      let first : HasPast beginning = (([], record { satisfied = tt; always = tt; rows = refl }), λ n. tt) in
      let has = front_has beginning front behind first (subst (AllRight beginning) same (all_right h is)) in
      (has.0.0, has.1)

  pub history_has_streams : (h front behind : List Entry) → History p f h → h ≡ front ++ behind → HaveNoStreams p f front → ⊥
  history_has_streams h front behind is same none = let has = history_has h front behind is same in none has.1 has.0.0 has.0.1
