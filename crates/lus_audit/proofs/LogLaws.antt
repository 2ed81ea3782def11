-- Reasons of a log, behind one line more.
use Rattle.std.proofs.Common.{◌≡◌, ◌∙◌, ◌+◌, ◌++◌, ℕ, Bool, true, false, cond, refl, ap, sym, subst, List, [], ◌∷◌, length, Option, Some, None, IsTrue, append-nil, string_bytes}
use Rattle.std.specs.Str.{bytes_eq}
use Rattle.std.proofs.lemmas.Slice.Eq.{bytes_eq-Decides}
use Rattle.std.specs.Map.{lookup}
use Rattle.std.specs.Prelude.{String}
use Rattle.std.specs.HashMap.{HashMap}
use Rattle.std.proofs.lemmas.Bool.{true≢false}
use Rattle.indexmap.specs.IndexMap.{get_by_text}
use Rattle.lus_values.specs.Names.{Names, Text}
use Rattle.lus_program.specs.Programs.{Program}
use Rattle.lus_printable.specs.Printable.{printable}
use Rattle.lus_requests.specs.declared.request.Entry.{Entry}
use Rattle.lus_requests.specs.declared.request.Reply.{Reply}
use Rattle.lus_requests.specs.declared.request.Reply.TheVariants.{Outputs, Rows, Done, Refused}
use Rattle.lus_requests.specs.declared.request.Request.{Request}
use Rattle.lus_replay.specs.Replays.{entry_said}
use Rattle.lus_cli.specs.MachineSpecs.Constructors.{names_of}
use Rattle.lus_cli.specs.MachineSpecs.HistorySpecs.Pasts.{lineage}
use Rattle.lus_windows.specs.Reasons.{Explains, ExplainsNext, TellsEntry}
use Rattle.lus_windows.specs.Windows.{entry_by, have_slots}
use Rattle.lus_windows.specs.declared.reasons.Explainer.{Explainer}
use Rattle.lus_hosting.specs.Audits.{LogEntry, LogLine, LogNote, entries_in}
use Rattle.lus_hosting.specs.LastEntries.{IsEntryOf}
use Rattle.lus_hosting.specs.Logs.{Logged, entries_of}
use Rattle.lus_hosting.specs.declared.named_entry.NamedEntry.{NamedEntry}
use Rattle.lus_hosting.proofs.AuditLaws.{behind_more}
use Rattle.lus_hosting.proofs.HostLaws.{entries_other, entries_own}
use Rattle.lus_audit.specs.LogReasons.{Follows, HasExplained, IsFollowed, IsRefused, TellsLog, begins, enters, history_in, notes}
use Rattle.lus_audit.specs.declared.log_reasons.Explanations.{Explanations}

-- ---- histories

pub history_own : (lines : List LogLine) (l : Logged)
    → history_in l.instance (lines ++ LogEntry l ∷ []) ≡ history_in l.instance lines ++ entry_said l.said ∷ []
history_own lines l = ap (entries_of l.instance) (behind_more [] lines (LogEntry l)) ∙ entries_own l.instance (entries_in lines) l.said

history_other : (name : Text) (lines : List LogLine) (l : Logged) → bytes_eq l.instance name ≡ false
    → history_in name (lines ++ LogEntry l ∷ []) ≡ history_in name lines
history_other name lines l other = ap (entries_of name) (behind_more [] lines (LogEntry l)) ∙ entries_other name (entries_in lines) l other

history_note : (name : Text) (lines : List LogLine) (t : Text) → history_in name (lines ++ LogNote t ∷ []) ≡ history_in name lines
history_note name lines t = ap (entries_of name) (behind_more [] lines (LogNote t) ∙ append-nil (entries_in lines))

-- none is named where none is
pub none_named : {Y S : Type 0} (m : HashMap (String Y) Explainer S) → m.entries ≡ [] → (name : Text) → get_by_text m name ≡ None
none_named m bare name = ap (lookup (λ k. bytes_eq name (string_bytes k))) bare

module _ (p : Program) (f : ℕ) where
  -- ---- what is kept of instances

  pub follows_none : (lines : List LogLine) (g : Text → Option Explainer) → ((name : Text) → g name ≡ None) → Follows p f lines g
  follows_none lines g none name = subst (IsFollowed p f name (history_in name lines)) (sym (none name)) tt

  pub follows_note : (lines : List LogLine) (t : Text) (g : Text → Option Explainer) → Follows p f lines g → Follows p f (lines ++ LogNote t ∷ []) g
  follows_note lines t g follows name = subst (λ h. IsFollowed p f name h (g name)) (sym (history_note name lines t)) (follows name)

  pub follows_entry : (lines : List LogLine) (l : Logged) (g g' : Text → Option Explainer) (o : Option Explainer)
      → ((name : Text) → g' name ≡ cond (bytes_eq l.instance name) o (g name))
      → IsFollowed p f l.instance (history_in l.instance (lines ++ LogEntry l ∷ [])) o → Follows p f lines g → Follows p f (lines ++ LogEntry l ∷ []) g'
  follows_entry lines l g g' o updates here follows name = go (bytes_eq l.instance name) refl
    where
      go : (b : Bool) → bytes_eq l.instance name ≡ b → IsFollowed p f name (history_in name (lines ++ LogEntry l ∷ [])) (g' name)
      go true is =
          let same : l.instance ≡ name = (bytes_eq-Decides l.instance name).0 is in
          let has : g' name ≡ o = updates name ∙ ap (λ b. cond b o (g name)) is in
          subst (IsFollowed p f name (history_in name (lines ++ LogEntry l ∷ []))) (sym has)
          (subst (λ n. IsFollowed p f n (history_in n (lines ++ LogEntry l ∷ [])) o) same here)
      go false is =
          let has : g' name ≡ g name = updates name ∙ ap (λ b. cond b o (g name)) is in
          subst (IsFollowed p f name (history_in name (lines ++ LogEntry l ∷ []))) (sym has)
          (subst (λ h. IsFollowed p f name h (g name)) (sym (history_other name lines l is)) (follows name))

  -- an entry of an instance of which nothing is kept
  follows_on : (lines : List LogLine) (l : Logged) (g : Text → Option Explainer) → g l.instance ≡ None → Follows p f lines g
      → Follows p f (lines ++ LogEntry l ∷ []) g
  follows_on lines l g none follows = follows_entry lines l g g None (λ name. go name (bytes_eq l.instance name) refl) tt follows
    where
      go : (name : Text) (b : Bool) → bytes_eq l.instance name ≡ b → g name ≡ cond (bytes_eq l.instance name) None (g name)
      go name true is =
          let same : l.instance ≡ name = (bytes_eq-Decides l.instance name).0 is in
          ap g (sym same) ∙ none ∙ sym (ap (λ b. cond b None (g name)) is)
      go name false is = sym (ap (λ b. cond b None (g name)) is)

  -- one more instance, without entries
  pub follows_new : (instance : Text) (e : Explainer) (g g' : Text → Option Explainer)
      → ((name : Text) → g' name ≡ cond (bytes_eq instance name) (Some e) (g name)) → Explains p f (printable instance) [] e → Follows p f [] g
      → Follows p f [] g'
  follows_new instance e g g' updates here follows name = go (bytes_eq instance name) refl
    where
      go : (b : Bool) → bytes_eq instance name ≡ b → IsFollowed p f name [] (g' name)
      go true is =
          let same : instance ≡ name = (bytes_eq-Decides instance name).0 is in
          let has : g' name ≡ Some e = updates name ∙ ap (λ b. cond b (Some e) (g name)) is in
          subst (IsFollowed p f name []) (sym has) (subst (λ n. IsFollowed p f n [] (Some e)) same here)
      go false is = subst (IsFollowed p f name []) (sym (updates name ∙ ap (λ b. cond b (Some e) (g name)) is)) (follows name)

  -- ---- reasons

  -- nothing is told of an entry that was accepted
  tells_nothing : (names : Names) (instance : Text) (number : ℕ) (h : List Entry) (request : Request) (reply : Reply) (text : Text)
      → (IsRefused reply → ⊥) → TellsEntry p f names instance number (have_slots h) (lineage h) request reply text text
  tells_nothing names instance number h request (Refused why) text accepted = absurd (accepted tt)
  tells_nothing names instance number h request (Outputs o) text accepted = refl
  tells_nothing names instance number h request (Rows os) text accepted = refl
  tells_nothing names instance number h request Done text accepted = refl

  module _ (lines : List LogLine) (x : Explanations) (has : HasExplained p f lines x) where
    -- however many lines are counted
    pub explained_lines : (n : ℕ) → HasExplained p f lines (record x { lines = n })
    explained_lines n = record { followed = has.followed; unfollowed = has.unfollowed; tells = has.tells }

    pub explained_note : (t : Text) (n : ℕ) → HasExplained p f (lines ++ LogNote t ∷ []) (record x { lines = n })
    explained_note t n = record {
      followed = follows_note lines t (get_by_text x.followed) has.followed;
      unfollowed = has.unfollowed;
      tells = λ whole. notes lines t (string_bytes x.text) (has.tells whole);
    }

    -- an entry that was accepted, of an instance that isn't followed
    pub explained_accepted : (l : Logged) → get_by_text x.followed l.instance ≡ None → (IsRefused l.said.reply → ⊥)
        → HasExplained p f (lines ++ LogEntry l ∷ []) x
    explained_accepted l none accepted = record {
      followed = follows_on lines l (get_by_text x.followed) none has.followed;
      unfollowed = has.unfollowed;
      tells = λ whole. enters lines l (string_bytes x.text) (string_bytes x.text) (has.tells whole)
          (tells_nothing (names_of p) (printable l.instance) (length lines + 1) (history_in l.instance lines) l.said.request l.said.reply (string_bytes x.text) accepted);
    }

    -- one that was refused
    pub explained_named : (l : Logged) (y : Explanations) → get_by_text x.followed l.instance ≡ None → y.followed ≡ x.followed → y.is_whole ≡ false
        → Follows p f [] (get_by_text y.unfollowed) → HasExplained p f (lines ++ LogEntry l ∷ []) y
    explained_named l y none same partial named = record {
      followed = subst (λ m. Follows p f (lines ++ LogEntry l ∷ []) (get_by_text m)) (sym same)
          (follows_on lines l (get_by_text x.followed) none has.followed);
      unfollowed = named;
      tells = λ whole. absurd (true≢false (sym whole ∙ partial));
    }

    -- an entry of an instance that is followed
    explained_entry : (l : Logged) (y : Explanations) (e : Explainer)
        → ((name : Text) → get_by_text y.followed name ≡ cond (bytes_eq l.instance name) (Some e) (get_by_text x.followed name))
        → y.unfollowed ≡ x.unfollowed → y.is_whole ≡ x.is_whole
        → ExplainsNext p f (names_of p) (printable l.instance) (length lines + 1) (history_in l.instance lines) (entry_said l.said) (string_bytes x.text)
        (string_bytes y.text) e
        → HasExplained p f (lines ++ LogEntry l ∷ []) y
    explained_entry l y e updates same whole next = record {
      followed = follows_entry lines l (get_by_text x.followed) (get_by_text y.followed) (Some e) updates
          (subst (λ h. Explains p f (printable l.instance) h e) (sym (history_own lines l)) next.explains) has.followed;
      unfollowed = subst (λ m. Follows p f [] (get_by_text m)) (sym same) has.unfollowed;
      tells = λ is. enters lines l (string_bytes x.text) (string_bytes y.text) (has.tells (sym whole ∙ is)) next.tells;
    }

    -- the same by what was explained, of the instance of this key
    pub explained_next : (q : Program) (names : Names) (y : Explanations) (l : Logged) (named : NamedEntry) (line : ℕ) (key : Text) (e e' : Explainer) → q ≡ p
        → names ≡ names_of p → line ≡ length lines + 1 → IsEntryOf (Some named) l → key ≡ string_bytes named.instance → Some e ≡ get_by_text x.followed key
        → ((name : Text) → get_by_text y.followed name ≡ cond (bytes_eq key name) (Some e') (get_by_text x.followed name))
        → y.unfollowed ≡ x.unfollowed → y.is_whole ≡ x.is_whole
        → ((g : ℕ) (instance : Text) (h : List Entry) (c : ℕ) → Explains q g instance h e
        → ExplainsNext q g names instance line h (entry_by c named.entry.request named.entry.reply) (string_bytes x.text) (string_bytes y.text) e')
        → HasExplained p f (lines ++ LogEntry l ∷ []) y
    explained_next q names y l named line key e e' same called number is key_is found updates unfollowed whole explains =
        let instance = printable l.instance in
        let h = history_in l.instance lines in
        let own : key ≡ l.instance = key_is ∙ is.0 in
        let there : get_by_text x.followed l.instance ≡ Some e = sym (found ∙ ap (get_by_text x.followed) own) in
        let before : Explains p f instance h e = subst (IsFollowed p f l.instance h) there (has.followed l.instance) in
        let entry : entry_by 0 named.entry.request named.entry.reply ≡ entry_said l.said = ap (λ (d : Entry). entry_by 0 d.request d.reply) is.1 in
        let next = explains f instance h 0 (subst (λ (r : Program). Explains r f instance h e) (sym same) before) in
        let of_p = subst (λ (r : Program). ExplainsNext r f names instance line h (entry_by 0 named.entry.request named.entry.reply) (string_bytes x.text)
        (string_bytes y.text) e') same next in
        let by_names = subst (λ n. ExplainsNext p f n instance line h (entry_by 0 named.entry.request named.entry.reply) (string_bytes x.text)
        (string_bytes y.text) e') called of_p in
        let at_line = subst (λ n. ExplainsNext p f (names_of p) instance n h (entry_by 0 named.entry.request named.entry.reply) (string_bytes x.text)
        (string_bytes y.text) e') number by_names in
        let of_entry = subst (λ d. ExplainsNext p f (names_of p) instance (length lines + 1) h d (string_bytes x.text) (string_bytes y.text) e') entry at_line in
        explained_entry l y e'
        (subst (λ i. (name : Text) → get_by_text y.followed name ≡ cond (bytes_eq i name) (Some e') (get_by_text x.followed name)) own updates)
        unfollowed whole of_entry
