-- Journals that can be read back, found one behind another.
use Rattle.std.proofs.Common.{◌≡◌, ◌∙◌, ◌+◌, ◌++◌, ◌⊎◌, inl, inr, ℕ, Bool, true, false, ap, sym, subst, List, [], ◌∷◌, Option, Some, append_assoc, append-nil}
use Rattle.std.specs.List.{All}
use Rattle.std.proofs.lemmas.List.Elements.{All-head, All-tail}
use Rattle.lus_values.specs.Names.{Text}
use Rattle.lus_program.specs.Programs.{Program}
use Rattle.lus_devices.specs.Devices.{Bytes, with_front}
use Rattle.lus_lines.specs.Lines.{HasReadWhole, IsLast, IsPlain, IsWholeLine}
use Rattle.lus_lines.specs.declared.whole.Whole.{Whole}
use Rattle.lus_lines.specs.declared.whole.Whole.TheVariants as wholes
use Rattle.lus_live_instance.specs.MachineSpecs.Acceptance.{IsAccepted}
use Rattle.lus_live_instance.specs.MachineSpecs.Constructors.{names_of}
use Rattle.lus_replay.specs.Replays.{items_text}
use Rattle.lus_replay.proofs.Follows.{at_end, front_known}
use Rattle.lus_replay.proofs.Splits.{line_feeds, lines_split}
use Rattle.lus_lawful.specs.Findings.{AreNone, Finds, FindsAll, GoesOn, IsBehind, IsNone, IsPassed, IsReadableJournal, IsStopped, IsToFind, IsWrongJournal, behind_text, first_line, texts}
use Rattle.lus_lawful.specs.Journals.{BeginsJournals, IsTail, Journal, journal_report, line_count, tail_before}
use Rattle.lus_lawful.specs.declared.auditing.Turn.{Turn}
use Rattle.lus_lawful.specs.declared.auditing.Turn.TheVariants as turns
use Rattle.lus_lawful.proofs.Firsts.{journal_first, rest_behind, rest_is, rest_of, texts_are}

-- the first line of journals was read, of which the rest is to be found, behind what is reported
pub record Reached (p : Program) (js : List Journal) (tail first : Text) (left : Option Bytes) (lines : ℕ) (report : Text) : Type 0 where
  pub journal : Journal
  pub later : List Journal
  pub readable : All (IsReadableJournal p) (journal ∷ later)
  pub plain : IsPlain tail
  pub first_is : first ≡ first_line journal.instance journal.node
  pub left_is : left ≡ Some (items_text (names_of p) 0 journal.items ++ (texts p later ++ tail))
  pub to_find : (all : Bool) (text : Text) → IsToFind p 0 js tail all text
      → (more : Text) × IsToFind p lines (journal ∷ later) tail all more × (text ≡ report ++ more)

-- it was, if these are journals that can be read back
abbrev pub Reaches : Program → Option Bytes → Text → Option Bytes → ℕ → Text → Type 0
Reaches p begun first left lines report =
    (js : List Journal) (tail : Text) → All (IsReadableJournal p) js → IsTail js tail → begun ≡ Some (texts p js ++ tail)
    → Reached p js tail first left lines report

module _ (p : Program) (accepted : IsAccepted p) where
  whole_first : (j : Journal) → IsReadableJournal p j → IsWholeLine (first_line j.instance j.node)
  whole_first j readable = (journal_first p accepted j readable).ended

  abbrev behind_first : Journal → List Journal → Text → Text
  behind_first j js tail = items_text (names_of p) 0 j.items ++ (texts p js ++ tail)

  -- ---- journal by journal

  pub reached_first : (first report : Text) (left : Option Bytes) → IsWholeLine first → report ≡ [] → Reaches p (with_front first left) first left 0 report
  reached_first first report left whole none js tail readable tailed is =
      go js readable tailed is (λ all text find. (text, find, ap (λ t. t ++ text) (sym none)))
    where
      go : (ks : List Journal) → All (IsReadableJournal p) ks → IsTail ks tail → with_front first left ≡ Some (texts p ks ++ tail)
          → ((all : Bool) (text : Text) → IsToFind p 0 js tail all text
          → (more : Text) × IsToFind p 0 ks tail all more × (text ≡ report ++ more))
          → Reached p js tail first left 0 report
      go [] all plain same find =
          let known = front_known tail first left (sym same) in absurd (line_feeds first known.0 whole (subst IsPlain known.2 plain.0))
      go (k ∷ ks) all plain same find =
          let known = front_known (texts p (k ∷ ks) ++ tail) first left (sym same) in
          let parts = lines_split first (first_line k.instance k.node) known.0 (behind_first k ks tail) whole
          (whole_first k (All-head (IsReadableJournal p) k ks all)) (sym known.2 ∙ texts_are p accepted k ks tail) in
          record {
            journal = k;
            later = ks;
            readable = all;
            plain = plain;
            first_is = parts.0;
            left_is = known.1 ∙ ap Some parts.1;
            to_find = find;
          }

  module _ (js : List Journal) (tail first : Text) (left : Option Bytes) (lines : ℕ) (old : Text) (s : Reached p js tail first left lines old) where
    one : IsReadableJournal p s.journal
    one = All-head (IsReadableJournal p) s.journal s.later s.readable

    others : All (IsReadableJournal p) s.later
    others = All-tail (IsReadableJournal p) s.journal s.later s.readable

    abbrev its_tail : Text
    its_tail = tail_before s.later tail

    abbrev rest : Option (Text × Text)
    rest = rest_of p accepted s.later tail

    behind_it : IsBehind rest its_tail
    behind_it = rest_behind p accepted s.later tail others s.plain

    left_rest : left ≡ Some (items_text (names_of p) 0 s.journal.items ++ behind_text rest its_tail)
    left_rest = s.left_is ∙ ap (λ t. Some (items_text (names_of p) 0 s.journal.items ++ t)) (sym (rest_is p accepted s.later tail))

    none_here : IsNone p first left → ⊥
    none_here none = none s.journal rest its_tail one behind_it s.first_is left_rest

    module _ (t : Turn) (line new : Text) (later : Option Bytes) (finds : Finds t p lines first left later line old new) where
      found : IsPassed p lines s.journal rest its_tail t line later old new ⊎ IsStopped p lines s.journal t old new
      found = finds s.journal rest its_tail one behind_it s.first_is left_rest

      next_here : (behind : ℕ) → t ≡ turns.Next behind → Reached p js tail line later behind new
      next_here behind is =
          elim found [
            | inl passed ↦ go s.later passed.on others s.to_find passed.reported passed.right
            | inr stopped ↦ absurd (no_wrong stopped.number (sym is ∙ stopped.ended))
          ]
        where
          no_wrong : (n : ℕ) → turns.Next behind ≡ turns.Wrong n → ⊥
          no_wrong n same = cc

          go : (ks : List Journal) → GoesOn (rest_of p accepted ks tail) t (lines + line_count s.journal) line later → All (IsReadableJournal p) ks
              → ((all : Bool) (text : Text) → IsToFind p 0 js tail all text
              → (more : Text) × IsToFind p lines (s.journal ∷ ks) tail all more × (text ≡ old ++ more))
              → new ≡ old ++ journal_report lines s.journal (tail_before ks tail)
              → ((report : Text) → IsWrongJournal p lines report s.journal → ⊥)
              → Reached p js tail line later behind new
          go [] on all find reported right = let never : turns.Next behind ≡ turns.Last = sym is ∙ on in absurd (cc)
          go (k ∷ ks) on all find reported right =
              let same : turns.Next (lines + line_count s.journal) ≡ turns.Next behind = sym on.0 ∙ is in
              let count : lines + line_count s.journal ≡ behind = cc in
              let said = journal_report lines s.journal [] in
              record {
                journal = k;
                later = ks;
                readable = all;
                plain = s.plain;
                first_is = on.1;
                left_is = on.2;
                to_find = λ each text is_to_find.
                    (let more = find each text is_to_find in
                    elim more.1 [
                      | inl lawful ↦ (
                        lawful.1.0,
                        subst (λ n. IsToFind p n (k ∷ ks) tail each lawful.1.0) count lawful.1.1,
                        more.2 ∙ ap (λ x. old ++ x) lawful.1.2 ∙ sym (append_assoc old said lawful.1.0) ∙ ap (λ x. x ++ lawful.1.0) (sym reported),
                      )
                      | inr wrong ↦ absurd (right more.0 wrong.1)
                    ]);
              }

      last_here : t ≡ turns.Last → (all : Bool) (text : Text) → IsToFind p 0 js tail all text → (true ≡ all) × (new ≡ text)
      last_here is all text is_to_find =
          elim found [
            | inl passed ↦ go s.later passed.on passed.reported passed.right (s.to_find all text is_to_find)
            | inr stopped ↦ absurd (no_wrong stopped.number (sym is ∙ stopped.ended))
          ]
        where
          no_wrong : (n : ℕ) → turns.Last ≡ turns.Wrong n → ⊥
          no_wrong n same = cc

          go : (ks : List Journal) → GoesOn (rest_of p accepted ks tail) t (lines + line_count s.journal) line later
              → new ≡ old ++ journal_report lines s.journal (tail_before ks tail)
              → ((report : Text) → IsWrongJournal p lines report s.journal → ⊥)
              → (more : Text) × IsToFind p lines (s.journal ∷ ks) tail all more × (text ≡ old ++ more) → (true ≡ all) × (new ≡ text)
          go (k ∷ ks) on reported right more =
              let never : turns.Last ≡ turns.Next (lines + line_count s.journal) = sym is ∙ on.0 in absurd (cc)
          go [] on reported right more =
              elim more.1 [
                | inl lawful ↦
                    (let all_said = journal_report lines s.journal tail in (
                      sym lawful.1.1.0,
                      reported
                          ∙ ap (λ x. old ++ x)
                          (sym (append-nil all_said) ∙ ap (λ x. all_said ++ x) (sym lawful.1.1.1) ∙ sym lawful.1.2) ∙ sym more.2,
                    ))
                | inr wrong ↦ absurd (right more.0 wrong.1)
              ]

      wrong_here : (n : ℕ) → t ≡ turns.Wrong n → (all : Bool) (text : Text) → IsToFind p 0 js tail all text → (false ≡ all) × (new ≡ text)
      wrong_here n is all text is_to_find =
          let more = s.to_find all text is_to_find in
          elim found [
            | inl passed ↦ absurd (no_on s.later passed.on)
            | inr stopped ↦
                elim more.1 [
                  | inl lawful ↦ absurd (stopped.wrong lawful.0)
                  | inr wrong ↦ (sym wrong.0, stopped.reported more.0 wrong.1 ∙ sym more.2)
                ]
          ]
        where
          no_on : (ks : List Journal) → GoesOn (rest_of p accepted ks tail) t (lines + line_count s.journal) line later → ⊥
          no_on [] on = let never : turns.Wrong n ≡ turns.Last = sym is ∙ on in cc
          no_on (k ∷ ks) on = let never : turns.Wrong n ≡ turns.Next (lines + line_count s.journal) = sym is ∙ on.0 in cc

  -- ---- all of them

  module _ (begun : Option Bytes) (first : Text) (left : Option Bytes) (lines : ℕ) (old : Text) (reaches : Reaches p begun first left lines old) where
    pub none_reached : IsNone p first left → AreNone p begun
    none_reached none js tail readable tailed is = none_here js tail first left lines old (reaches js tail readable tailed is) none

    module _ (t : Turn) (line new : Text) (later : Option Bytes) (finds : Finds t p lines first left later line old new) where
      pub next_reached : (behind : ℕ) → t ≡ turns.Next behind → Reaches p begun line later behind new
      next_reached behind is js tail readable tailed same =
          next_here js tail first left lines old (reaches js tail readable tailed same) t line new later finds behind is

      pub last_reached : t ≡ turns.Last → FindsAll p true begun new
      last_reached is js tail readable tailed same =
          last_here js tail first left lines old (reaches js tail readable tailed same) t line new later finds is

      pub wrong_reached : (n : ℕ) → t ≡ turns.Wrong n → FindsAll p false begun new
      wrong_reached n is js tail readable tailed same =
          wrong_here js tail first left lines old (reaches js tail readable tailed same) t line new later finds n is

  -- ---- the first line of all

  module _ (left mid : Option Bytes) (first : Text) (w : Whole) (read : HasReadWhole w first left mid) where
    whole_line : w ≡ wholes.Line → IsWholeLine first × (left ≡ with_front first mid)
    whole_line is = subst (λ x. HasReadWhole x first left mid) is read

    pub none_found : w ≡ wholes.Line → AreNone p (with_front first mid) → AreNone p left
    none_found is none js tail readable tailed same = none js tail readable tailed (sym (whole_line is).1 ∙ same)

    -- journals have line feeds
    no_journals : (bytes tail : Text) (k : Journal) (ks : List Journal) → IsLast bytes left mid → All (IsReadableJournal p) (k ∷ ks)
        → left ≡ Some (texts p (k ∷ ks) ++ tail) → ⊥
    no_journals bytes tail k ks last all here =
        let end = at_end (texts p (k ∷ ks) ++ tail) bytes mid (sym here ∙ last.read) last.over in
        line_feeds (first_line k.instance k.node) (behind_first k ks tail) (whole_first k (All-head (IsReadableJournal p) k ks all))
        (subst IsPlain (sym end.1 ∙ texts_are p accepted k ks tail) last.plain)

    pub none_unfinished : w ≡ wholes.Unfinished → (BeginsJournals first → ⊥) → AreNone p left
    none_unfinished is begins js tail readable tailed same = go js readable tailed same (subst (λ x. HasReadWhole x first left mid) is read).0
      where
        go : (ks : List Journal) → All (IsReadableJournal p) ks → IsTail ks tail → left ≡ Some (texts p ks ++ tail) → IsLast first left mid → ⊥
        go [] all none here last =
            let end = at_end tail first mid (sym here ∙ last.read) last.over in begins (subst BeginsJournals end.1 none.1)
        go (k ∷ ks) all plain here last = no_journals first tail k ks last all here

    none_before : (bytes report : Text) → IsLast bytes left mid → report ≡ [] → FindsAll p true left report
    none_before bytes report last empty js tail readable tailed same = go js readable same
      where
        go : (ks : List Journal) → All (IsReadableJournal p) ks → left ≡ Some (texts p ks ++ tail) → (all : Bool) (text : Text)
            → IsToFind p 0 ks tail all text → (true ≡ all) × (report ≡ text)
        go [] readable_all here all text find = (sym find.0, empty ∙ sym find.1)
        go (k ∷ ks) readable_all here all text find = absurd (no_journals bytes tail k ks last readable_all here)

    pub none_there : (report : Text) → w ≡ wholes.End → report ≡ [] → FindsAll p true left report
    none_there report is = none_before [] report (subst (λ x. HasReadWhole x first left mid) is read)

    pub none_whole : (report : Text) → w ≡ wholes.Unfinished → report ≡ [] → FindsAll p true left report
    none_whole report is = none_before first report (subst (λ x. HasReadWhole x first left mid) is read).0
