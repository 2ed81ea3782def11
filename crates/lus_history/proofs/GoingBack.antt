-- A restore goes back to its save.
use Rattle.std.proofs.Common.{◌≡◌, ◌≢◌, ℕ, true, false, List, [], ◌∷◌, ◌++◌, Some, refl, sym, ap, ap₂, ◌∙◌, subst, ⊎_elim}
use Rattle.std.proofs.lemmas.Bool.{lt-ltb}
use Rattle.std.proofs.lemmas.Bool.Decides.{eqb_tells}
use Rattle.lus_values.specs.Lists.{Each}
use Rattle.lus_program.specs.Programs.{Program}
use Rattle.lus_requests.specs.declared.request.Request.{Request}
use Rattle.lus_requests.specs.declared.request.Request.TheVariants.{Step, Reset, Save, Restore, Burst}
use Rattle.lus_requests.specs.declared.request.Reply.{Reply}
use Rattle.lus_requests.specs.declared.request.Reply.TheVariants.{Outputs, Rows, Done, Refused}
use Rattle.lus_requests.specs.declared.request.Entry.{Entry}
use Rattle.lus_history.specs.Pasts.{Past, beginning, saved_or, after, after_all, past_of}
use Rattle.lus_history.specs.Replies.{slots, save_reply, restore_reply, IsRightAfter}
use Rattle.lus_history.specs.Histories.{History, empty, more}
use Rattle.lus_history.specs.Laws.{RestoresGoBack}

module _ (p : Program) (f : ℕ) where
  -- each reply is right, from the first entry on
  abbrev AllRight : Past → List Entry → Type 0
  AllRight past [] = Unit {0}
  AllRight past (e ∷ es) = IsRightAfter p f past e.request e.reply × AllRight (after past e.request e.reply) es

  right_more : (past : Past) (h : List Entry) (e : Entry) → AllRight past h → IsRightAfter p f (after_all past h) e.request e.reply → AllRight past (h ++ e ∷ [])
  right_more past [] e all right = (right, tt)
  right_more past (d ∷ h) e all right = (all.0, right_more (after past d.request d.reply) h e all.1 right)

  all_right : (h : List Entry) → History p f h → AllRight beginning h
  all_right _ empty = tt
  all_right _ (more h e is right) = right_more beginning h e (all_right h is) right

  right_behind : (past : Past) (before rest : List Entry) → AllRight past (before ++ rest) → AllRight (after_all past before) rest
  right_behind past [] rest all = all
  right_behind past (d ∷ before) rest all = right_behind (after past d.request d.reply) before rest all.1

after_append : (past : Past) (xs ys : List Entry) → after_all past (xs ++ ys) ≡ after_all (after_all past xs) ys
after_append past [] ys = refl
after_append past (x ∷ xs) ys = after_append (after past x.request x.reply) xs ys

-- a save is in its slot
slot_saved : (n : ℕ) (past : Past) → (after past (Save n) Done).saved n ≡ Some past.lineage
slot_saved n past =
    ⊎_elim
    (λ t. subst (λ b. elim b [ true ↦ Some past.lineage | false ↦ past.saved n ] ≡ Some past.lineage) (sym t.0) refl)
    (λ t. absurd (t.1 refl))
    (eqb_tells n n)

-- what is no save into a slot leaves it
slot_kept : (n : ℕ) (past : Past) (r : Request) (a : Reply) → r ≢ Save n → (after past r a).saved n ≡ past.saved n
slot_kept n past (Save m) Done other =
    ⊎_elim
    (λ t. absurd (other (ap Save (sym t.1))))
    (λ t. subst (λ b. elim b [ true ↦ Some past.lineage | false ↦ past.saved n ] ≡ past.saved n) (sym t.0) refl)
    (eqb_tells n m)
slot_kept n past (Save m) (Outputs o) other = refl
slot_kept n past (Save m) (Rows o) other = refl
slot_kept n past (Save m) (Refused w) other = refl
slot_kept n past (Step i) (Outputs o) other = refl
slot_kept n past (Step i) (Rows o) other = refl
slot_kept n past (Step i) Done other = refl
slot_kept n past (Step i) (Refused w) other = refl
slot_kept n past (Burst rows) (Outputs o) other = refl
slot_kept n past (Burst rows) (Rows o) other = refl
slot_kept n past (Burst rows) Done other = refl
slot_kept n past (Burst rows) (Refused w) other = refl
slot_kept n past Reset (Outputs o) other = refl
slot_kept n past Reset (Rows o) other = refl
slot_kept n past Reset Done other = refl
slot_kept n past Reset (Refused w) other = refl
slot_kept n past (Restore m) (Outputs o) other = refl
slot_kept n past (Restore m) (Rows o) other = refl
slot_kept n past (Restore m) Done other = refl
slot_kept n past (Restore m) (Refused w) other = refl

slot_stays : (n : ℕ) (past : Past) (h : List Entry) → Each (λ e. e.request ≢ Save n) h → (after_all past h).saved n ≡ past.saved n
slot_stays n past [] others = refl
slot_stays n past (e ∷ h) others = slot_stays n (after past e.request e.reply) h others.1 ∙ slot_kept n past e.request e.reply others.0

pub restores_go_back : RestoresGoBack
restores_go_back p f n before between save restore below saves others restores h =
    let then = past_of before in
    let rest = between ++ restore ∷ [] in
    let right = right_behind p f beginning before (save ∷ rest) (all_right p f _ h) in
    let done : save.reply ≡ Done = subst (λ r. IsRightAfter p f then r save.reply) saves right.0 ∙ ap save_reply (lt-ltb n slots below) in
    let saved = after then save.request save.reply in
    let last = after_all saved between in
    let slot : last.saved n ≡ Some then.lineage =
    slot_stays n saved between others ∙ ap (λ (q : Past). q.saved n) (ap₂ (after then) saves done) ∙ slot_saved n then in
    let right' = right_behind p f saved between (restore ∷ []) right.1 in
    let done' : restore.reply ≡ Done =
    subst (λ r. IsRightAfter p f last r restore.reply) restores right'.0 ∙ ap₂ restore_reply (lt-ltb n slots below) slot in (
      done',
      ap (λ (q : Past). q.lineage) (after_append beginning before (save ∷ rest) ∙ after_append saved between (restore ∷ []) ∙ ap₂ (after last) restores done')
          ∙ ap (saved_or last.lineage) slot,
    )
