-- What the instances of a host keep, as one of them is made, called, or replayed.
use Rattle.std.proofs.Common.{◌≡◌, ◌∙◌, ◌+◌, ◌++◌, ℕ, Bool, true, false, cond, refl, ap, sym, subst, List, [], ◌∷◌, length, map, filter, Option, Some, None, append-nil, length-append, string_bytes, arith}
use Rattle.std.specs.Map.{lookup}
use Rattle.std.specs.Str.{bytes_eq}
use Rattle.std.specs.Prelude.{IfSome}
use Rattle.std.proofs.lemmas.List.{same_from_push}
use Rattle.std.proofs.lemmas.Slice.Eq.{bytes_eq-Decides}
use Rattle.lus_values.specs.Names.{Text}
use Rattle.lus_program.specs.Programs.{Program}
use Rattle.lus_requests.specs.declared.request.Entry.{Entry}
use Rattle.lus_requests.specs.declared.request.Reply.{Reply}
use Rattle.lus_requests.specs.declared.request.Request.{Request}
use Rattle.lus_play.specs.Plays.{entry_of}
use Rattle.lus_replay.specs.Replays.{AsksNothing, AsksOnly, BeginsAsked, IsJudged, Said, entry_said, said_line}
use Rattle.lus_replay.specs.declared.line.Verdict.{Verdict}
use Rattle.lus_replay.specs.declared.line.Verdict.TheVariants as verdicts
use Rattle.lus_live_instance.specs.MachineSpecs.Constructors.{names_of}
use Rattle.lus_live_instance.proofs.LiveLaws.{lawful_of}
use Rattle.lus_live_instance.specs.Lives.{IsLive}
use Rattle.lus_live_instance.specs.MachineSpecs.HistorySpecs.Histories.{History, empty}
use Rattle.indexmap.specs.IndexMap.{get_by_text}
use Rattle.lus_hosting.specs.Hosts.{HasCalled, HasReplayedOn, KeepsIn, Stands, logged}
use Rattle.lus_hosting.specs.Logs.{Logged, entries_of, is_of, next_of}
use Rattle.lus_hosting.specs.LastEntries.{IsLast, IsEntryOf}
use Rattle.lus_hosting.specs.declared.instances.Instances.{Instances}
use Rattle.lus_hosting.specs.declared.hosted.Hosted.{Hosted}
use Rattle.lus_hosting.specs.declared.named_entry.NamedEntry.{NamedEntry}

-- ---- logs

abbrev own : Logged → Entry
own l = entry_said l.said

abbrev taken : Bool → Logged → List Entry
taken b l = cond b (own l ∷ []) []

-- one more entry is of its instance
pub entries_more : (name : Text) (log : List Logged) (l : Logged) → entries_of name (log ++ l ∷ []) ≡ entries_of name log ++ taken (is_of name l) l
entries_more name [] l = go (is_of name l)
  where
    go : (b : Bool) → map own (cond b (l ∷ []) []) ≡ taken b l
    go true = refl
    go false = refl
entries_more name (d ∷ log) l = go (is_of name d) (filter (is_of name) (log ++ l ∷ [])) (filter (is_of name) log) (entries_more name log l)
  where
    go : (b : Bool) (xs ys : List Logged) → map own xs ≡ map own ys ++ taken (is_of name l) l
        → map own (cond b (d ∷ xs) xs) ≡ map own (cond b (d ∷ ys) ys) ++ taken (is_of name l) l
    go true xs ys same = ap (λ es. own d ∷ es) same
    go false xs ys same = same

-- and of no other
pub entries_own : (name : Text) (log : List Logged) (s : Said) → entries_of name (log ++ record { instance = name; said = s } ∷ []) ≡ entries_of name log ++ entry_said s ∷ []
entries_own name log s =
    let l : Logged = record { instance = name; said = s } in
    entries_more name log l ∙ ap (λ b. entries_of name log ++ taken b l) ((bytes_eq-Decides name name).1 refl)

apart : (a b : Text) → bytes_eq a b ≡ false → bytes_eq b a ≡ false
apart a b other = go (bytes_eq b a) refl
  where
    go : (c : Bool) → bytes_eq b a ≡ c → c ≡ false
    go false is = refl
    go true is =
        let same : b ≡ a = (bytes_eq-Decides b a).0 is in
        sym ((bytes_eq-Decides a b).1 (sym same)) ∙ other

pub entries_other : (name : Text) (log : List Logged) (l : Logged) → bytes_eq l.instance name ≡ false → entries_of name (log ++ l ∷ []) ≡ entries_of name log
entries_other name log l other =
    entries_more name log l ∙ ap (λ b. entries_of name log ++ taken b l) (apart l.instance name other) ∙ append-nil (entries_of name log)

-- ---- instances

module _ (p : Program) (f : ℕ) (log : List Logged) (g g' : Text → Option Hosted) (keeps : KeepsIn p f log g) (instance : Text) where
  -- what the instances keep where one of this name changed
  changed : (log' : List Logged) (h : Hosted) → ((name : Text) → g' name ≡ cond (bytes_eq instance name) (Some h) (g name))
      → Stands p f (entries_of instance log') (Some h)
      → ((name : Text) → bytes_eq instance name ≡ false → entries_of name log' ≡ entries_of name log)
      → KeepsIn p f log' g'
  changed log' h updates here others name = go (bytes_eq instance name) refl
    where
      go : (b : Bool) → bytes_eq instance name ≡ b → Stands p f (entries_of name log') (g' name)
      go true is =
          let same : instance ≡ name = (bytes_eq-Decides instance name).0 is in
          let has : g' name ≡ Some h = updates name ∙ ap (λ b. cond b (Some h) (g name)) is in
          subst (Stands p f (entries_of name log')) (sym has) (subst (λ n. Stands p f (entries_of n log') (Some h)) same here)
      go false is =
          let has : g' name ≡ g name = updates name ∙ ap (λ b. cond b (Some h) (g name)) is in
          subst (Stands p f (entries_of name log')) (sym has) (subst (λ es. Stands p f es (g name)) (sym (others name is)) (keeps name))

  -- an instance was made, that was never called
  pub opened : (h : Hosted) → g instance ≡ None → ((name : Text) → g' name ≡ cond (bytes_eq instance name) (Some h) (g name))
      → IsLive p f h.instance.reactor → h.instance.reactor.history ≡ [] → h.entries ≡ 0 → KeepsIn p f log g'
  opened h none updates live new counted =
      let nothing : entries_of instance log ≡ [] = subst (Stands p f (entries_of instance log)) none (keeps instance) in
      changed log h updates (live, new ∙ sym nothing, counted ∙ ap length (sym nothing)) (λ name other. refl)

  -- one has an entry more
  pub entered : (h h' : Hosted) (s : Said) → g instance ≡ Some h → ((name : Text) → g' name ≡ cond (bytes_eq instance name) (Some h') (g name))
      → IsLive p f h'.instance.reactor → h'.instance.reactor.history ≡ h.instance.reactor.history ++ entry_said s ∷ [] → h'.entries ≡ h.entries + 1
      → KeepsIn p f (log ++ record { instance = instance; said = s } ∷ []) g'
  entered h h' s has updates live grown counted =
      let old = subst (Stands p f (entries_of instance log)) has (keeps instance) in
      let more = entries_own instance log s in
      let was = old.2 in
      let long = length-append (entries_of instance log) (entry_said s ∷ []) in
      let lengths = ap length more in
      changed (log ++ record { instance = instance; said = s } ∷ []) h' updates
      (live, grown ∙ ap (λ es. es ++ entry_said s ∷ []) old.1 ∙ sym more, omega (arith, counted, was, long, lengths))
      (λ name other. entries_other name log (record { instance = instance; said = s }) other)

  -- its next entry has the next number
  pub numbered : (h : Hosted) → g instance ≡ Some h → h.entries + 1 ≡ length (entries_of instance log) + 1
  numbered h has = ap (λ n. n + 1) (subst (Stands p f (entries_of instance log)) has (keeps instance)).2

  is_live : (h : Hosted) → g instance ≡ Some h → IsLive p f h.instance.reactor
  is_live h has = (subst (Stands p f (entries_of instance log)) has (keeps instance)).0

  module _ (h h' : Hosted) (has : g instance ≡ Some h) (updates : (name : Text) → g' name ≡ cond (bytes_eq instance name) (Some h') (g name))
      (live : IsLive p f h.instance.reactor → IsLive p f h'.instance.reactor) where
    -- a call was made on one
    pub called_on : (r : Request) (n : ℕ) (e : Entry) → HasCalled r h h' n e
        → (a : Reply) × (e ≡ entry_of r a) × (n ≡ next_of instance log) × ((caller : Text) → KeepsIn p f (log ++ logged instance caller r a ∷ []) g')
    called_on r n e called = (
      called.0,
      called.1,
      called.2 ∙ numbered h has,
      λ caller.
          entered h h' (record { caller = caller; request = r; reply = called.0 }) has updates (live (is_live h has))
          (called.3 ∙ ap (λ d. h.instance.reactor.history ++ d ∷ []) called.1) called.4,
    )

-- each instance has a lawful history
pub all_lawful : (p : Program) (f : ℕ) (log : List Logged) (g : Text → Option Hosted) → KeepsIn p f log g → (name : Text) → History p f (entries_of name log)
all_lawful p f log g keeps name = go (g name) (keeps name)
  where
    go : (o : Option Hosted) → Stands p f (entries_of name log) o → History p f (entries_of name log)
    go None none = subst (History p f) (sym none) empty
    go (Some h) stands = subst (History p f) stands.1 (lawful_of p f h.instance.reactor stands.0)

-- none is named where none is
pub none_named : (new : Instances) → new.by_name.entries ≡ [] → (name : Text) → get_by_text new.by_name name ≡ None
none_named new bare name = ap (lookup (λ k. bytes_eq name (string_bytes k))) bare

-- no instance has been made
pub none_kept : (p : Program) (f : ℕ) (g : Text → Option Hosted) → ((name : Text) → g name ≡ None) → KeepsIn p f [] g
none_kept p f g none name = subst (Stands p f []) (sym (none name)) refl

-- what is recalled is the entry that was replayed
recalled : (last : Option Entry) (named : Option NamedEntry) (past now : List Entry) (instance : Text) (s : Said) → now ≡ past ++ entry_said s ∷ [] → IsLast last now
    → IfSome named (λ e. (string_bytes e.instance ≡ instance) × (last ≡ Some e.entry)) → IsEntryOf named (record { instance = instance; said = s })
recalled last None past now instance s grown kept has = tt
recalled last (Some e) past now instance s grown kept has =
    let there = subst (λ o. IsLast o now) has.1 kept in (has.0, (same_from_push there.0 past e.entry (entry_said s) (sym there.1 ∙ grown)).1)

-- what was replayed, by its verdict
pub replayed_so : (p : Program) (f : ℕ) (log : List Logged) (g : Text → Option Hosted) (new : Instances) → KeepsIn p f log g → (instance : Text)
    (h h' : Hosted) → g instance ≡ Some h
    → ((name : Text) → get_by_text new.by_name name ≡ cond (bytes_eq instance name) (Some h') (g name))
    → (IsLive p f h.instance.reactor → IsLive p f h'.instance.reactor) → (line right : Text) (v : Verdict) → h'.entries ≡ h.entries + 1
    → IsJudged v (names_of p) (h.entries + 1) line right h.instance.reactor.history h'.instance.reactor.history
    → (last : Option Entry) → (IsLive p f h.instance.reactor → IsLast last h'.instance.reactor.history)
    → IfSome new.last (λ e. (string_bytes e.instance ≡ instance) × (last ≡ Some e.entry)) → HasReplayedOn p f log instance line right v new
replayed_so p f log g new keeps instance h h' has updates live line right verdicts.Right counted judged last kept named =
    let n = numbered p f log g (get_by_text new.by_name) keeps instance h has in (
      judged.said,
      judged.spelled ∙ ap (λ k. said_line (names_of p) k judged.said) n,
      entered p f log g (get_by_text new.by_name) keeps instance h h' judged.said has updates
          (live (is_live p f log g (get_by_text new.by_name) keeps instance h has)) judged.entered counted,
      subst (λ k. AsksOnly (names_of p) k line judged.said.caller judged.said.request) n judged.only,
      recalled last new.last h.instance.reactor.history h'.instance.reactor.history instance judged.said judged.entered
          (kept (is_live p f log g (get_by_text new.by_name) keeps instance h has)) named,
    )
replayed_so p f log g new keeps instance h h' has updates live line right verdicts.Wrong counted judged last kept named =
    let n = numbered p f log g (get_by_text new.by_name) keeps instance h has in (
      judged.said,
      judged.spelled ∙ ap (λ k. said_line (names_of p) k judged.said) n,
      entered p f log g (get_by_text new.by_name) keeps instance h h' judged.said has updates
          (live (is_live p f log g (get_by_text new.by_name) keeps instance h has)) judged.entered counted,
      subst (λ k. AsksOnly (names_of p) k line judged.said.caller judged.said.request) n judged.only,
      subst (λ k. BeginsAsked (names_of p) judged.said.caller k judged.said.request line) n judged.asked,
      judged.differs,
      recalled last new.last h.instance.reactor.history h'.instance.reactor.history instance judged.said judged.entered
          (kept (is_live p f log g (get_by_text new.by_name) keeps instance h has)) named,
    )
replayed_so p f log g new keeps instance h h' has updates live line right verdicts.NoEntry counted judged last kept named =
    subst (λ k. AsksNothing (names_of p) k line) (numbered p f log g (get_by_text new.by_name) keeps instance h has) judged
