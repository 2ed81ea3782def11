-- What is found of a journal that can be read back.
use Rattle.std.proofs.Common.{◌≡◌, ◌≢◌, ◌∙◌, ◌⊎◌, inl, inr, ◌+◌, ◌++◌, ℕ, Bool, false, refl, ap, ap₂, sym, subst, List, [], ◌∷◌, length, map, Option, Some, None, append_assoc, arith, codes}
use Rattle.std.specs.List.{AllZip}
use Rattle.std.proofs.lemmas.Option.{same_Some}
use Rattle.lus_values.specs.Names.{Names, Text}
use Rattle.lus_program.specs.Programs.{Program}
use Rattle.lus_requests.specs.declared.request.Request.{Request}
use Rattle.lus_requests.specs.declared.request.Reply.{Reply}
use Rattle.lus_requests.specs.declared.request.Entry.{Entry}
use Rattle.lus_devices.specs.Devices.{Bytes}
use Rattle.lus_devices.specs.Journals.{reply_text}
use Rattle.lus_asked.specs.Asked.{asked_text}
use Rattle.lus_history.specs.Pasts.{beginning}
use Rattle.lus_live_instance.specs.MachineSpecs.Acceptance.{IsAccepted}
use Rattle.lus_live_instance.specs.MachineSpecs.Constructors.{names_of}
use Rattle.lus_live_instance.specs.MachineSpecs.Formals.{node_named}
use Rattle.lus_history.specs.Histories.{History}
use Rattle.lus_play.specs.Plays.{entry_of}
use Rattle.lus_replay.specs.Replays.{HasFoundWrong, IsAlike, Item, Said, Told, ends_counted, entry_said, items_text, line_of, said_in, said_line, saids_of}
use Rattle.lus_replay.specs.declared.replaying.Ending.{Ending}
use Rattle.lus_replay.specs.declared.replaying.Ending.TheVariants as endings
use Rattle.lus_replay.specs.declared.replaying.Replayed.{Replayed}
use Rattle.lus_lawful.specs.Audits.{HasReplayedLawfully}
use Rattle.lus_lawful.specs.Findings.{FindsBehind, GoesOn, IsBehind, IsNoneBehind, IsPassed, IsReadableJournal, IsStopped, IsWrongJournal, behind_text, wrong_entry_text}
use Rattle.lus_lawful.specs.Journals.{IsLawfulJournal, Journal, entries_of, is_whole, lawful_text, line_count, wrong_text}
use Rattle.lus_lawful.specs.declared.auditing.Turn.{Turn}
use Rattle.lus_lawful.specs.declared.auditing.Turn.TheVariants as turns
use Rattle.lus_lawful.proofs.Places.{places}
use Rattle.lus_lawful.proofs.Replies.{AllRight, IsAsked, alike_of, all_right, asked_alike, asked_of, last_same, right_before, told_right}
use Rattle.lus_lawful.proofs.Tails.{EndsTo, HasReadTo, reads_to}
use Rattle.lus_lawful.proofs.Words.{names_plain}

-- ---- replies

saids_append : (is js : List Item) → saids_of (is ++ js) ≡ saids_of is ++ saids_of js
saids_append [] js = refl
saids_append (i ∷ is) js = ap (λ ss. said_in i ++ ss) (saids_append is js) ∙ sym (append_assoc (said_in i) (saids_of is) (saids_of js))

-- lines with replies that are spelled alike
line_alike : (names : Names) (caller : Text) (n : ℕ) (q : Request) (a b : Reply) → reply_text names a ≡ reply_text names b
    → line_of names caller n (entry_of q a) ≡ line_of names caller n (entry_of q b)
line_alike names caller n q a b same = ap (λ t. (asked_text names caller n q ++ t) ++ codes "\n") same

-- an entry behind items with a reply that is spelled as no right one
record Differs (p : Program) (f : ℕ) (before : List Item) (s : Said) (es : List Entry) (a : Reply) : Type 0 where
  asked : AllZip IsAsked es (saids_of before)
  right : AllRight p f beginning (es ++ entry_of s.request a ∷ [])
  differs : said_line (names_of p) (length (saids_of before) + 1) s
      ≢ line_of (names_of p) s.caller (length (saids_of before) + 1) (entry_of s.request a)

module _ (p : Program) (accepted : IsAccepted p) (f : ℕ) where
  abbrev names : Names
  names = names_of p

  -- is none of items whose entries are right
  none_among : (before : List Item) (s : Said) (es : List Entry) (a : Reply) → Differs p f before s es a
      → (is later : List Item) (ds : List Entry) → is ≡ before ++ Told s ∷ later → AllZip (IsAlike names) ds (saids_of is)
      → AllRight p f beginning ds → ⊥
  none_among before s es a differs is later ds is_so alike right =
      let saids : saids_of is ≡ saids_of before ++ s ∷ saids_of later = ap saids_of is_so ∙ saids_append before (Told s ∷ later) in
      let told = told_right p accepted f names beginning (saids_of before) s (saids_of later) ds es a
      (subst (AllZip (IsAlike names) ds) saids alike) differs.asked right differs.right in
      differs.differs (line_alike names s.caller (length (saids_of before) + 1) s.request s.reply a (sym told))

  module _ (j : Journal) (lines : ℕ) (named : node_named p j.node ≡ Some f) where
    node_is : (g : ℕ) → node_named p j.node ≡ Some g → g ≡ f
    node_is g is = same_Some g f (sym is ∙ named)

    wrong_differs : (report : Text) (w : IsWrongJournal p lines report j) → Differs p f w.before w.said (map entry_said (saids_of w.before)) w.right
    wrong_differs report w = record {
      asked = asked_of (saids_of w.before);
      right = all_right p f (map entry_said (saids_of w.before) ++ entry_of w.said.request w.right ∷ [])
          (subst (λ g. History p g (map entry_said (saids_of w.before) ++ entry_of w.said.request w.right ∷ [])) (node_is w.node w.named) w.lawful);
      differs = w.differs;
    }

    -- a journal whose entries are right has no wrong one
    none_wrong : (ds : List Entry) → AllZip (IsAlike names) ds (saids_of j.items) → AllRight p f beginning ds → (report : Text)
        → IsWrongJournal p lines report j → ⊥
    none_wrong ds alike right report w =
        none_among w.before w.said (map entry_said (saids_of w.before)) w.right (wrong_differs report w) j.items w.behind ds w.items alike right

    module _ (before behind : List Item) (s : Said) (es : List Entry) (a : Reply) (here : Differs p f before s es a)
        (alike : AllZip (IsAlike names) es (saids_of before)) (items : j.items ≡ before ++ Told s ∷ behind) where
      -- one with a wrong entry isn't lawful
      not_lawful : IsLawfulJournal p j → ⊥
      not_lawful lawful =
          none_among before s es a here j.items behind (entries_of j) items (alike_of names (saids_of j.items))
          (all_right p f (entries_of j) (subst (λ g. History p g (entries_of j)) (node_is lawful.node lawful.named) lawful.lawful))

      -- and has one that is the first
      first_wrong : (report : Text) → IsWrongJournal p lines report j → report ≡ wrong_entry_text names j.instance lines before s a
      first_wrong report w =
          let found = wrong_differs report w in
          elim (places before w.before behind w.behind (Told s) (Told w.said) (sym items ∙ w.items)) [
            | inl place ↦
                (let said : s ≡ w.said = (let told = place.1 in cc) in
                let right : AllRight p f beginning (map entry_said (saids_of before) ++ entry_of s.request w.right ∷ []) =
                subst (λ is. AllRight p f beginning (map entry_said (saids_of is) ++ entry_of s.request w.right ∷ [])) (sym place.0)
                (subst (λ (t : Said). AllRight p f beginning (map entry_said (saids_of w.before) ++ entry_of t.request w.right ∷ [])) (sym said) found.right) in
                let reply : a ≡ w.right =
                last_same p accepted f beginning (saids_of before) s es (map entry_said (saids_of before)) a w.right here.asked
                (asked_of (saids_of before)) here.right right in
                w.reported
                ∙ ap (λ is. wrong_entry_text names j.instance lines is w.said w.right) (sym place.0)
                ∙ ap₂ (λ t b. wrong_entry_text names j.instance lines before t b) (sym said) (sym reply))
            | inr (inl later) ↦
                absurd (none_among before s es a here w.before later.0 (map entry_said (saids_of w.before)) later.1 (alike_of names (saids_of w.before))
                (right_before p f beginning (map entry_said (saids_of w.before)) (entry_of w.said.request w.right ∷ []) found.right))
            | inr (inr earlier) ↦
                absurd (none_among w.before w.said (map entry_said (saids_of w.before)) w.right found before earlier.0 es earlier.1 alike
                (right_before p f beginning es (entry_of s.request a ∷ []) here.right))
          ]

-- ---- one journal

-- whether a journal is reported as whole, by its end and whether its last line says how many entries there are
abbrev whole_at : Ending → Bool → Bool
whole_at endings.Cut is_counted = false
whole_at _ is_counted = is_counted

whole_is : (rest : Option (Text × Text)) (tail : Text) (e : Ending) (line : Text) (later : Option Bytes) (j : Journal) (c : Bool)
    → IsBehind rest tail → EndsTo rest tail e line later → c ≡ ends_counted j.items → whole_at e c ≡ is_whole j tail
whole_is None [] e line later j c is ends counted = ap (λ x. whole_at x c) ends ∙ counted
whole_is None (b ∷ tail) e line later j c is ends counted = ap (λ x. whole_at x c) ends
whole_is (Some next) tail e line later j c is ends counted = ap (λ x. whole_at x c) ends.0 ∙ counted ∙ ap (is_whole j) (sym is.1)

module _ (p : Program) (f : ℕ) (instance node : Text) (named : node_named p node ≡ Some f) (left later : Option Bytes) (lines : ℕ)
    (line right : Text) (Seen : List Entry → Type 0) (r : Replayed) (lived : HasReplayedLawfully p f Seen r left later line right) where
  module _ (j : Journal) (rest : Option (Text × Text)) (tail : Text) (readable : IsReadableJournal p j) (is_behind : IsBehind rest tail)
      (same : node ≡ j.node) (left_is : left ≡ Some (items_text (names_of p) 0 j.items ++ behind_text rest tail)) where
    read : HasReadTo (names_of p) r j.items rest tail later [] lived.history line ⊎ HasFoundWrong (names_of p) r j.items [] lived.history line right
    read =
        reads_to (names_of p) (names_plain p lived.accepted) r left later [] lived.history line right lived.replayed j.items readable.items lived.back rest
        tail is_behind left_is

    named_so : node_named p j.node ≡ Some f
    named_so = subst (λ n. node_named p n ≡ Some f) same named

    -- where all was read
    on_there : (a : HasReadTo (names_of p) r j.items rest tail later [] lived.history line) (t : Turn) (behind : ℕ) → behind ≡ lines + r.lines + 1
        → (e : Ending) → r.ending ≡ e → (e ≡ endings.End → t ≡ turns.Last) → (e ≡ endings.Cut → t ≡ turns.Last)
        → (e ≡ endings.Next → t ≡ turns.Next behind) → GoesOn rest t (lines + line_count j) line later
    on_there a t behind place e ending last cut next =
        let read_lines = a.lines in
        let count : behind ≡ lines + line_count j = omega (arith, place, read_lines) in
        go rest tail a.ended count
      where
        go : (x : Option (Text × Text)) (y : Text) → EndsTo x y r.ending line later → behind ≡ lines + line_count j
            → GoesOn x t (lines + line_count j) line later
        go None [] ended count = last (sym ending ∙ ended)
        go None (b ∷ y) ended count = cut (sym ending ∙ ended)
        go (Some x) y ended count = (next (sym ending ∙ ended.0) ∙ ap turns.Next count, ended.1, ended.2)

    lawful_there : (a : HasReadTo (names_of p) r j.items rest tail later [] lived.history line) → AllRight p f beginning a.entries
    lawful_there a = all_right p f a.entries (subst (History p f) a.entered lived.lawful)

    passed : (t : Turn) (behind : ℕ) (old new : Text) → behind ≡ lines + r.lines + 1 → (e : Ending) → r.ending ≡ e → e ≢ endings.Wrong
        → (e ≡ endings.End → t ≡ turns.Last) → (e ≡ endings.Cut → t ≡ turns.Last) → (e ≡ endings.Next → t ≡ turns.Next behind)
        → instance ≡ j.instance → new ≡ old ++ lawful_text instance (whole_at e r.is_counted) behind
        → IsPassed p lines j rest tail t line later old new ⊎ IsStopped p lines j t old new
    passed t behind old new place e ending other last cut next called reported =
        elim read [
          | inl a ↦
              (let read_lines = a.lines in
              let count : behind ≡ lines + line_count j = omega (arith, place, read_lines) in
              let whole : whole_at e r.is_counted ≡ is_whole j tail =
              ap (λ x. whole_at x r.is_counted) (sym ending) ∙ whole_is rest tail r.ending line later j r.is_counted is_behind a.ended a.counted in
              inl (record {
                on = on_there a t behind place e ending last cut next;
                reported = reported ∙ ap (λ i. old ++ lawful_text i (whole_at e r.is_counted) behind) called
                    ∙ ap₂ (λ w n. old ++ lawful_text j.instance w n) whole count;
                right = none_wrong p lived.accepted f j lines named_so a.entries a.alike (lawful_there a);
              }))
          | inr w ↦ absurd (other (sym ending ∙ w.ended))
        ]

    wrong_there : (w : HasFoundWrong (names_of p) r j.items [] lived.history line right) → Differs p f w.before w.said w.entries w.answered
    wrong_there w = record {
      asked = asked_alike (names_of p) w.entries (saids_of w.before) w.alike;
      right = all_right p f (w.entries ++ entry_of w.said.request w.answered ∷ []) (subst (History p f) w.entered lived.lawful);
      differs = λ alike. w.differs (w.written ∙ alike ∙ sym w.spelled);
    }

    stopped : (t : Turn) (number : ℕ) (old new : Text) → number ≡ lines + r.lines + 1 + 1 → r.ending ≡ endings.Wrong → t ≡ turns.Wrong number
        → instance ≡ j.instance → new ≡ old ++ wrong_text instance number line right
        → IsPassed p lines j rest tail t line later old new ⊎ IsStopped p lines j t old new
    stopped t number old new place ending ended called reported =
        elim read [
          | inl a ↦ absurd (no_end rest tail a.ended)
          | inr w ↦
              (let here = wrong_there w in
              let read_lines = w.lines in
              let count : number ≡ lines + length w.before + 2 = omega (arith, place, read_lines) in
              let text : wrong_text instance number line right ≡ wrong_entry_text (names_of p) j.instance lines w.before w.said w.answered =
              ap (λ i. wrong_text i number line right) called
              ∙ ap (λ n. wrong_text j.instance n line right) count
              ∙ ap₂ (λ x y. wrong_text j.instance (lines + length w.before + 2) x y) w.written w.spelled in
              inr (record {
                number = number;
                ended = ended;
                wrong = not_lawful p lived.accepted f j lines named_so w.before w.behind w.said w.entries w.answered here w.alike w.items_are;
                reported = λ report wrong.
                    reported ∙ ap (λ x. old ++ x)
                    (text ∙ sym (first_wrong p lived.accepted f j lines named_so w.before w.behind w.said w.entries w.answered here w.alike w.items_are report wrong));
              }))
        ]
      where
        no_end : (x : Option (Text × Text)) (y : Text) → EndsTo x y r.ending line later → ⊥
        no_end None [] end = let is : endings.Wrong ≡ endings.End = sym ending ∙ end in cc
        no_end None (b ∷ y) end = let is : endings.Wrong ≡ endings.Cut = sym ending ∙ end in cc
        no_end (Some x) y end = let is : endings.Wrong ≡ endings.Next = sym ending ∙ end.0 in cc

    -- each of its lines is one of a journal
    no_other : r.ending ≡ endings.NoEntry → ⊥
    no_other ending =
        elim read [
          | inl a ↦ go rest tail a.ended
          | inr w ↦ (let is : endings.NoEntry ≡ endings.Wrong = sym ending ∙ w.ended in cc)
        ]
      where
        go : (x : Option (Text × Text)) (y : Text) → EndsTo x y r.ending line later → ⊥
        go None [] end = let is : endings.NoEntry ≡ endings.End = sym ending ∙ end in cc
        go None (b ∷ y) end = let is : endings.NoEntry ≡ endings.Cut = sym ending ∙ end in cc
        go (Some x) y end = let is : endings.NoEntry ≡ endings.Next = sym ending ∙ end.0 in cc

  pub finds_next : (behind : ℕ) (old new : Text) → behind ≡ lines + r.lines + 1 → r.ending ≡ endings.Next
      → new ≡ old ++ lawful_text instance r.is_counted behind → FindsBehind (turns.Next behind) p lines instance node left later line old new
  finds_next behind old new place ending reported =
      λ j rest tail readable is_behind called same left_is.
      passed j rest tail readable is_behind same left_is (turns.Next behind) behind old new place endings.Next ending (λ e. cc) (λ e. absurd (cc))
      (λ e. absurd (cc)) (λ e. refl) called reported

  pub finds_last : (behind : ℕ) (old new : Text) → behind ≡ lines + r.lines + 1 → r.ending ≡ endings.End
      → new ≡ old ++ lawful_text instance r.is_counted behind → FindsBehind turns.Last p lines instance node left later line old new
  finds_last behind old new place ending reported =
      λ j rest tail readable is_behind called same left_is.
      passed j rest tail readable is_behind same left_is turns.Last behind old new place endings.End ending (λ e. cc) (λ e. refl) (λ e. refl)
      (λ e. absurd (cc)) called reported

  pub finds_cut : (behind : ℕ) (old new : Text) → behind ≡ lines + r.lines + 1 → r.ending ≡ endings.Cut
      → new ≡ old ++ lawful_text instance false behind → FindsBehind turns.Last p lines instance node left later line old new
  finds_cut behind old new place ending reported =
      λ j rest tail readable is_behind called same left_is.
      passed j rest tail readable is_behind same left_is turns.Last behind old new place endings.Cut ending (λ e. cc) (λ e. refl) (λ e. refl)
      (λ e. absurd (cc)) called reported

  pub finds_wrong : (number : ℕ) (old new : Text) → number ≡ lines + r.lines + 1 + 1 → r.ending ≡ endings.Wrong
      → new ≡ old ++ wrong_text instance number line right → FindsBehind (turns.Wrong number) p lines instance node left later line old new
  finds_wrong number old new place ending reported =
      λ j rest tail readable is_behind called same left_is.
      stopped j rest tail readable is_behind same left_is (turns.Wrong number) number old new place ending refl called reported

  pub none_left : r.ending ≡ endings.NoEntry → IsNoneBehind p instance node left
  none_left ending = λ j rest tail readable is_behind called same left_is. no_other j rest tail readable is_behind same left_is ending
