-- Right replies are unique, so two lawful histories that ask alike are answered alike.
use Rattle.std.proofs.Common.{◌≡◌, ◌∙◌, ◌++◌, ℕ, refl, ap, sym, subst, List, [], ◌∷◌, map}
use Rattle.std.specs.List.{AllZip}
use Rattle.lus_values.specs.Names.{Names}
use Rattle.lus_program.specs.Programs.{Program}
use Rattle.lus_requests.specs.declared.request.Request.{Request}
use Rattle.lus_requests.specs.declared.request.Reply.{Reply}
use Rattle.lus_requests.specs.declared.request.Entry.{Entry}
use Rattle.lus_devices.specs.Journals.{reply_text}
use Rattle.lus_history.specs.Histories.{History, empty, more}
use Rattle.lus_history.specs.Pasts.{Past, after, after_all, beginning}
use Rattle.lus_history.specs.Replies.{IsRightAfter}
use Rattle.lus_history.proofs.GoingOn.{right_replies_unique}
use Rattle.lus_live_instance.specs.MachineSpecs.Acceptance.{IsAccepted}
use Rattle.lus_live_instance.proofs.MachineProofs.AcceptedPrograms.{checked}
use Rattle.lus_play.specs.Plays.{entry_of}
use Rattle.lus_replay.specs.Replays.{IsAlike, Said, entry_said}

-- ---- from the first entry on

module _ (p : Program) (f : ℕ) where
  abbrev pub AllRight : Past → List Entry → Type 0
  AllRight past [] = Unit {0}
  AllRight past (e ∷ es) = IsRightAfter p f past e.request e.reply × AllRight (after past e.request e.reply) es

  right_more : (past : Past) (h : List Entry) (e : Entry) → AllRight past h → IsRightAfter p f (after_all past h) e.request e.reply
      → AllRight past (h ++ e ∷ [])
  right_more past [] e all right = (right, tt)
  right_more past (d ∷ h) e all right = (all.0, right_more (after past d.request d.reply) h e all.1 right)

  pub all_right : (h : List Entry) → History p f h → AllRight beginning h
  all_right _ empty = tt
  all_right _ (more h e is right) = right_more beginning h e (all_right h is) right

  pub right_before : (past : Past) (before rest : List Entry) → AllRight past (before ++ rest) → AllRight past before
  right_before past [] rest all = tt
  right_before past (d ∷ before) rest all = (all.0, right_before (after past d.request d.reply) before rest all.1)

-- ---- entries that ask what is said

-- but perhaps with other replies
abbrev pub IsAsked : Entry → Said → Type 0
IsAsked e s = e ≡ entry_of s.request e.reply

pub asked_of : (ss : List Said) → AllZip IsAsked (map entry_said ss) ss
asked_of [] = tt
asked_of (s ∷ ss) = (refl, asked_of ss)

pub alike_of : (names : Names) (ss : List Said) → AllZip (IsAlike names) (map entry_said ss) ss
alike_of names [] = tt
alike_of names (s ∷ ss) = (record { asked = refl; told = refl }, alike_of names ss)

pub asked_alike : (names : Names) (es : List Entry) (ss : List Said) → AllZip (IsAlike names) es ss → AllZip IsAsked es ss
asked_alike names [] [] alike = tt
asked_alike names [] (s ∷ ss) alike = absurd alike
asked_alike names (e ∷ es) [] alike = absurd alike
asked_alike names (e ∷ es) (s ∷ ss) alike = (alike.0.asked, asked_alike names es ss alike.1)

module _ (p : Program) (accepted : IsAccepted p) (f : ℕ) where
  unique : (past : Past) (request : Request) (a b : Reply) → IsRightAfter p f past request a → IsRightAfter p f past request b → a ≡ b
  unique = right_replies_unique p (checked accepted.0 p accepted.1) f

  -- the right entry that asks what is said
  entry_same : (past : Past) (s : Said) (e : Entry) (a : Reply) → IsAsked e s → IsRightAfter p f past e.request e.reply
      → IsRightAfter p f past s.request a → e.reply ≡ a
  entry_same past s e a asked right given =
      let same : e.request ≡ s.request = ap (λ (d : Entry). d.request) asked in
      unique past s.request e.reply a (subst (λ q. IsRightAfter p f past q e.reply) same right) given

  asked_same : (past : Past) (s : Said) (d e : Entry) → IsAsked d s → IsAsked e s → IsRightAfter p f past d.request d.reply
      → IsRightAfter p f past e.request e.reply → d ≡ e
  asked_same past s d e first second right given =
      let same : e.request ≡ s.request = ap (λ (x : Entry). x.request) second in
      let reply = entry_same past s d e.reply first right (subst (λ q. IsRightAfter p f past q e.reply) same given) in
      first ∙ ap (entry_of s.request) reply ∙ sym second

  -- behind entries that ask alike a request has one reply
  pub last_same : (past : Past) (ss : List Said) (s : Said) (ds es : List Entry) (a b : Reply) → AllZip IsAsked ds ss → AllZip IsAsked es ss
      → AllRight p f past (ds ++ entry_of s.request a ∷ []) → AllRight p f past (es ++ entry_of s.request b ∷ []) → a ≡ b
  last_same past [] s [] [] a b first second right given = unique past s.request a b right.0 given.0
  last_same past [] s (d ∷ ds) es a b first second right given = absurd first
  last_same past [] s [] (e ∷ es) a b first second right given = absurd second
  last_same past (t ∷ ss) s [] es a b first second right given = absurd first
  last_same past (t ∷ ss) s (d ∷ ds) [] a b first second right given = absurd second
  last_same past (t ∷ ss) s (d ∷ ds) (e ∷ es) a b first second right given =
      let same = asked_same past t d e first.0 second.0 right.0 given.0 in
      last_same (after past e.request e.reply) ss s ds es a b first.1 second.1
      (subst (λ (x : Entry). AllRight p f (after past x.request x.reply) (ds ++ entry_of s.request a ∷ [])) same right.1) given.1

  -- an entry among right ones is said with a reply that is spelled as the right one
  pub told_right : (names : Names) (past : Past) (ss : List Said) (s : Said) (later : List Said) (ds es : List Entry) (a : Reply)
      → AllZip (IsAlike names) ds (ss ++ s ∷ later) → AllZip IsAsked es ss → AllRight p f past ds
      → AllRight p f past (es ++ entry_of s.request a ∷ []) → reply_text names a ≡ reply_text names s.reply
  told_right names past [] s later [] es a first second right given = absurd first
  told_right names past [] s later (d ∷ ds) (e ∷ es) a first second right given = absurd second
  told_right names past [] s later (d ∷ ds) [] a first second right given =
      ap (reply_text names) (sym (entry_same past s d a first.0.asked right.0 given.0)) ∙ first.0.told
  told_right names past (t ∷ ss) s later [] es a first second right given = absurd first
  told_right names past (t ∷ ss) s later (d ∷ ds) [] a first second right given = absurd second
  told_right names past (t ∷ ss) s later (d ∷ ds) (e ∷ es) a first second right given =
      let same = asked_same past t d e first.0.asked second.0 right.0 given.0 in
      told_right names (after past e.request e.reply) ss s later ds es a first.1 second.1
      (subst (λ (x : Entry). AllRight p f (after past x.request x.reply) ds) same right.1) given.1
