-- Journals that can be read back are read as they are spelled.
use Rattle.std.proofs.Common.{◌≡◌, ◌≢◌, ◌∙◌, ◌⊎◌, inl, inr, ◌+◌, ◌++◌, ℕ, refl, ap, ap₂, sym, subst, List, [], ◌∷◌, length, map, Option, Some, None, append_assoc, append-nil, arith, length-append, codes}
use Rattle.std.specs.List.{All, AllZip}
use Rattle.std.proofs.lemmas.List.{append_cancel_left, append_cancel_right}
use Rattle.std.proofs.lemmas.List.Elements.{All-head, All-tail, length_all_zip}
use Rattle.std.proofs.lemmas.Option.{same_Some}
use Rattle.lus_values.specs.Names.{Text, Names}
use Rattle.lus_requests.specs.declared.request.Reply.{Reply}
use Rattle.lus_requests.specs.declared.request.Entry.{Entry}
use Rattle.lus_devices.specs.Devices.{AtEnd, Bytes, with_front}
use Rattle.lus_devices.specs.Journals.{reply_text}
use Rattle.lus_asked.specs.Asked.{asked_text}
use Rattle.lus_lines.specs.Lines.{IsPlain, IsWholeLine}
use Rattle.lus_play.specs.Plays.{entry_of}
use Rattle.lus_replay.specs.declared.replaying.Ending.{Ending}
use Rattle.lus_replay.specs.declared.replaying.Ending.TheVariants as endings
use Rattle.lus_replay.specs.declared.replaying.Replayed.{Replayed}
use Rattle.lus_replay.specs.Replays.{AreItemsRead, ArePlain, BeginsAsked, BeginsJournal, Counted, CutShort, EndsAt, EndsSo, HasReplayed, IsAlike, IsCutShort, IsItemRead, IsNoItem, IsReadable, IsRest, IsWrong, Item, ReadsBack, Said, Told, ends_counted, entry_said, is_count, item_text, items_text, kind_of, line_of, rest_text, said_in, said_line, saids_of}
use Rattle.lus_replay.proofs.Apart.{asked_no_count, asked_no_journal, count_no_cut, count_no_journal, item_whole, said_asked, said_no_cut}
use Rattle.lus_replay.proofs.Splits.{line_feeds, line_some, lines_split}

-- ---- what is left

pub front_known : (m front : Bytes) (later : Option Bytes) → Some m ≡ with_front front later → (l : Bytes) × (later ≡ Some l) × (m ≡ front ++ l)
front_known m front None is = absurd (cc)
front_known m front (Some l) is = (l, refl, same_Some _ _ is)

pub at_end : (m tail : Bytes) (later : Option Bytes) → Some m ≡ with_front tail later → AtEnd later → (later ≡ Some []) × (m ≡ tail)
at_end m tail None is over = absurd (cc)
at_end m tail (Some l) is over = (ap Some over, same_Some _ _ is ∙ ap (λ t. tail ++ t) over ∙ append-nil tail)

-- ---- items that are alike

-- but perhaps for their replies
abbrev pub IsAlikeItem : Names → Item → Item → Type 0
IsAlikeItem names (Told s) (Told t) = (s.request ≡ t.request) × (reply_text names s.reply ≡ reply_text names t.reply)
IsAlikeItem names Counted Counted = Unit {0}
IsAlikeItem names (CutShort t) (CutShort u) = Unit {0}
IsAlikeItem names _ _ = ⊥

alike_count : (names : Names) (i g : Item) → IsAlikeItem names i g → length (said_in i) ≡ length (said_in g)
alike_count names (Told s) (Told t) alike = refl
alike_count names (Told s) Counted alike = absurd alike
alike_count names (Told s) (CutShort t) alike = absurd alike
alike_count names Counted (Told t) alike = absurd alike
alike_count names Counted Counted alike = refl
alike_count names Counted (CutShort t) alike = absurd alike
alike_count names (CutShort t) (Told s) alike = absurd alike
alike_count names (CutShort t) Counted alike = absurd alike
alike_count names (CutShort t) (CutShort u) alike = refl

alike_kind : (names : Names) (i g : Item) → IsAlikeItem names i g → is_count (kind_of i) ≡ is_count (kind_of g)
alike_kind names (Told s) (Told t) alike = refl
alike_kind names (Told s) Counted alike = absurd alike
alike_kind names (Told s) (CutShort t) alike = absurd alike
alike_kind names Counted (Told t) alike = absurd alike
alike_kind names Counted Counted alike = refl
alike_kind names Counted (CutShort t) alike = absurd alike
alike_kind names (CutShort t) (Told s) alike = absurd alike
alike_kind names (CutShort t) Counted alike = absurd alike
alike_kind names (CutShort t) (CutShort u) alike = refl

alike_counts : (names : Names) (is gs : List Item) → AllZip (IsAlikeItem names) is gs → length (saids_of is) ≡ length (saids_of gs)
alike_counts names [] [] alike = refl
alike_counts names [] (g ∷ gs) alike = absurd alike
alike_counts names (i ∷ is) [] alike = absurd alike
alike_counts names (i ∷ is) (g ∷ gs) alike =
    length-append (said_in i) (saids_of is) ∙ ap₂ (λ x y. x + y) (alike_count names i g alike.0) (alike_counts names is gs alike.1)
    ∙ sym (length-append (said_in g) (saids_of gs))

alike_ends : (names : Names) (is gs : List Item) → AllZip (IsAlikeItem names) is gs → ends_counted is ≡ ends_counted gs
alike_ends names [] [] alike = refl
alike_ends names [] (g ∷ gs) alike = absurd alike
alike_ends names (i ∷ is) [] alike = absurd alike
alike_ends names (i ∷ []) (g ∷ []) alike = alike_kind names i g alike.0
alike_ends names (i ∷ []) (g ∷ f ∷ gs) alike = absurd alike.1
alike_ends names (i ∷ j ∷ is) (g ∷ []) alike = absurd alike.1
alike_ends names (i ∷ j ∷ is) (g ∷ f ∷ gs) alike = alike_ends names (j ∷ is) (f ∷ gs) alike.1

-- their entries are, too
alike_saids : (names : Names) (is gs : List Item) → AllZip (IsAlikeItem names) is gs
    → AllZip (IsAlike names) (map entry_said (saids_of is)) (saids_of gs)
alike_saids names [] [] alike = tt
alike_saids names [] (g ∷ gs) alike = absurd alike
alike_saids names (i ∷ is) [] alike = absurd alike
alike_saids names (Told s ∷ is) (Told t ∷ gs) alike =
    (record { asked = ap (λ q. entry_of q s.reply) alike.0.0; told = alike.0.1 }, alike_saids names is gs alike.1)
alike_saids names (Told s ∷ is) (Counted ∷ gs) alike = absurd alike.0
alike_saids names (Told s ∷ is) (CutShort t ∷ gs) alike = absurd alike.0
alike_saids names (Counted ∷ is) (Told t ∷ gs) alike = absurd alike.0
alike_saids names (Counted ∷ is) (Counted ∷ gs) alike = alike_saids names is gs alike.1
alike_saids names (Counted ∷ is) (CutShort t ∷ gs) alike = absurd alike.0
alike_saids names (CutShort t ∷ is) (Told s ∷ gs) alike = absurd alike.0
alike_saids names (CutShort t ∷ is) (Counted ∷ gs) alike = absurd alike.0
alike_saids names (CutShort t ∷ is) (CutShort u ∷ gs) alike = alike_saids names is gs alike.1

-- ---- where a journal ended

module _ (names : Names) (k : ℕ) where
  told_asked : (s : Said) (line : Text) → line ≡ said_line names (k + 1) s → BeginsAsked names s.caller (k + 1) s.request line
  told_asked s line is = subst (BeginsAsked names s.caller (k + 1) s.request) (sym is) (said_asked names (k + 1) s)

  -- an item is no first line of a journal
  no_first : (g : Item) (line : Text) → BeginsJournal line → (IsCutShort line → ⊥) → line ≡ item_text names k g → ⊥
  no_first (Told s) line begins whole is = asked_no_journal names s.caller (k + 1) s.request line (told_asked s line is) begins
  no_first Counted line begins whole is = count_no_journal k line is begins
  no_first (CutShort t) line begins whole is = whole (t, is)

  -- nor is it what is no item
  no_none : (g : Item) (line : Text) → IsReadable names g → IsNoItem names k line → line ≡ item_text names k g → ⊥
  no_none (Told s) line readable none is = none.asks s.caller s.request readable.0 readable.1 (told_asked s line is)
  no_none Counted line readable none is = none.no_count is
  no_none (CutShort t) line readable none is = none.whole (t, is)

  -- what is behind a journal begins with no item
  no_rest : (rest : Option (Text × Text)) (i : Item) (x : Text) → IsRest rest → IsItemRead names k i → item_text names k i ++ x ≡ rest_text rest → ⊥
  no_rest None i x is_rest read same = line_some (item_text names k i) x read.whole same
  no_rest (Some p) i x is_rest read same =
      let parts = lines_split (item_text names k i) p.0 x p.1 read.whole is_rest.ended same in
      no_first i p.0 is_rest.begins is_rest.whole (sym parts.0)

  -- two items with one line are alike
  alike_item : (i g : Item) → IsItemRead names k i → IsReadable names g → item_text names k i ≡ item_text names k g → IsAlikeItem names i g
  alike_item (Told s) (Told t) read readable same =
      let one = read.asks t.caller t.request readable.0 readable.1 (told_asked t (said_line names (k + 1) s) same) in
      let front = asked_text names s.caller (k + 1) s.request in
      let there = asked_text names t.caller (k + 1) t.request in
      let fronts : front ≡ there = ap₂ (λ c q. asked_text names c (k + 1) q) one.0 one.1 in
      let lines = append_cancel_right (front ++ reply_text names s.reply) (there ++ reply_text names t.reply) (codes "\n") same in (
        one.1,
        append_cancel_left there (reply_text names s.reply) (reply_text names t.reply) (ap (λ a. a ++ reply_text names s.reply) (sym fronts) ∙ lines),
      )
  alike_item (Told s) Counted read readable same =
      asked_no_count names s.caller (k + 1) s.request k (said_line names (k + 1) s) (said_asked names (k + 1) s) same
  alike_item (Told s) (CutShort t) read readable same = said_no_cut names (k + 1) s t same
  alike_item Counted (Told t) read readable same =
      asked_no_count names t.caller (k + 1) t.request k (said_line names (k + 1) t) (said_asked names (k + 1) t) (sym same)
  alike_item Counted Counted read readable same = tt
  alike_item Counted (CutShort t) read readable same = count_no_cut k t same
  alike_item (CutShort t) (Told s) read readable same = said_no_cut names (k + 1) s t (sym same)
  alike_item (CutShort t) Counted read readable same = count_no_cut k t (sym same)
  alike_item (CutShort t) (CutShort u) read readable same = tt

  module _ (m : Text) (later : Option Bytes) (h h' : List Entry) (line right : Text) where
    -- behind all items
    ended_there : (e : Ending) (rest : Option (Text × Text)) → IsRest rest → m ≡ rest_text rest → EndsSo e names k (Some m) later h h' line right
        → EndsAt rest e line later × (h' ≡ h)
    ended_there endings.End None is_rest same ends = let end = at_end m [] later ends.0.read ends.0.over in ((refl, end.0), ends.1)
    ended_there endings.End (Some p) is_rest same ends =
        let end = at_end m [] later ends.0.read ends.0.over in absurd (line_some p.0 p.1 is_rest.ended (sym same ∙ end.1))
    ended_there endings.Next None is_rest same ends =
        let left = front_known m line later ends.0 in absurd (line_some line left.0 ends.1 (sym left.2 ∙ same))
    ended_there endings.Next (Some p) is_rest same ends =
        let left = front_known m line later ends.0 in
        let parts = lines_split line p.0 left.0 p.1 ends.1 is_rest.ended (sym left.2 ∙ same) in
        ((refl, parts.0, left.1 ∙ ap Some parts.1), ends.3)
    ended_there endings.Cut None is_rest same ends =
        let end = at_end m line later ends.0.read ends.0.over in
        let none : length line ≡ 0 = ap length (sym end.1 ∙ same) in
        let some = ends.1 in
        absurd (omega (arith, none, some))
    ended_there endings.Cut (Some p) is_rest same ends =
        let end = at_end m line later ends.0.read ends.0.over in
        absurd (line_feeds p.0 p.1 is_rest.ended (subst IsPlain (sym end.1 ∙ same) ends.0.plain))
    ended_there endings.Wrong None is_rest same ends =
        let left = front_known m line later ends.0 in absurd (line_some line left.0 ends.2 (sym left.2 ∙ same))
    ended_there endings.Wrong (Some p) is_rest same ends =
        let left = front_known m line later ends.0 in
        let parts = lines_split line p.0 left.0 p.1 ends.2 is_rest.ended (sym left.2 ∙ same) in
        let wrong = ends.1 in
        absurd (asked_no_journal names wrong.said.caller (k + 1) wrong.said.request line wrong.asked (subst BeginsJournal (sym parts.0) is_rest.begins))
    ended_there endings.NoEntry None is_rest same ends =
        let left = front_known m line later ends.0 in absurd (line_some line left.0 ends.1 (sym left.2 ∙ same))
    ended_there endings.NoEntry (Some p) is_rest same ends =
        let left = front_known m line later ends.0 in
        let parts = lines_split line p.0 left.0 p.1 ends.1 is_rest.ended (sym left.2 ∙ same) in
        absurd (ends.2.begins (subst BeginsJournal (sym parts.0) is_rest.begins))

    -- an item is an entry whose reply is another than the one that was answered
    record IsWrongThere (e : Ending) (g : Item) : Type 0 where
      pub said : Said
      pub is : g ≡ Told said
      pub answered : Reply
      pub ended : e ≡ endings.Wrong
      pub entered : h' ≡ h ++ entry_of said.request answered ∷ []
      pub written : line ≡ said_line names (k + 1) said
      pub spelled : right ≡ line_of names said.caller (k + 1) (entry_of said.request answered)
      pub differs : line ≢ right

    wrong_there : (g : Item) → IsReadable names g → IsWrong names (k + 1) line right h h' → (IsCutShort line → ⊥) → line ≡ item_text names k g
        → IsWrongThere endings.Wrong g
    wrong_there (Told s) readable wrong whole is =
        let one = wrong.only s.caller s.request readable.0 readable.1 (told_asked s line is) in
        record {
          said = s;
          is = refl;
          answered = wrong.said.reply;
          ended = refl;
          entered = wrong.entered ∙ ap (λ q. h ++ entry_of q wrong.said.reply ∷ []) one.1;
          written = is;
          spelled = wrong.spelled ∙ ap₂ (λ c q. line_of names c (k + 1) (entry_of q wrong.said.reply)) one.0 one.1;
          differs = wrong.differs;
        }
    wrong_there Counted readable wrong whole is =
        absurd (asked_no_count names wrong.said.caller (k + 1) wrong.said.request k line wrong.asked is)
    wrong_there (CutShort t) readable wrong whole is = absurd (whole (t, is))

    -- before an item
    item_there : (e : Ending) (g : Item) (x : Text) → IsReadable names g → IsWholeLine (item_text names k g) → m ≡ item_text names k g ++ x
        → EndsSo e names k (Some m) later h h' line right → IsWrongThere e g
    item_there endings.End g x readable whole same ends =
        let end = at_end m [] later ends.0.read ends.0.over in absurd (line_some (item_text names k g) x whole (sym same ∙ end.1))
    item_there endings.Next g x readable whole same ends =
        let left = front_known m line later ends.0 in
        let parts = lines_split line (item_text names k g) left.0 x ends.1 whole (sym left.2 ∙ same) in
        absurd (no_first g line ends.2 ends.4 parts.0)
    item_there endings.Cut g x readable whole same ends =
        let end = at_end m line later ends.0.read ends.0.over in
        absurd (line_feeds (item_text names k g) x whole (subst IsPlain (sym end.1 ∙ same) ends.0.plain))
    item_there endings.Wrong g x readable whole same ends =
        let left = front_known m line later ends.0 in
        let parts = lines_split line (item_text names k g) left.0 x ends.2 whole (sym left.2 ∙ same) in
        wrong_there g readable ends.1 ends.3 parts.0
    item_there endings.NoEntry g x readable whole same ends =
        let left = front_known m line later ends.0 in
        let parts = lines_split line (item_text names k g) left.0 x ends.1 whole (sym left.2 ∙ same) in
        absurd (no_none g line readable ends.2 parts.0)

-- ---- item by item

module _ (names : Names) (named : ArePlain names) (e : Ending) (all : ℕ) (m : Text) (later : Option Bytes) (h h' : List Entry) (line right : Text)
    (rest : Option (Text × Text)) (is_rest : IsRest rest) (ends : EndsSo e names all (Some m) later h h' line right) where
  -- all were read
  record AllWalked (is gs : List Item) : Type 0 where
    pub alike : AllZip (IsAlikeItem names) is gs
    pub ended : EndsAt rest e line later
    pub entered : h' ≡ h

  -- all before one with a wrong reply were read
  record WrongMet (is gs : List Item) : Type 0 where
    pub before : List Item
    pub item : Item
    pub behind : List Item
    pub items_are : gs ≡ before ++ item ∷ behind
    pub alike : AllZip (IsAlikeItem names) is before
    pub there : IsWrongThere names all m later h h' line right e item

  walked : (k : ℕ) (is gs : List Item) → all ≡ k + length (saids_of is) → AreItemsRead names k is → All (IsReadable names) gs
      → items_text names k is ++ m ≡ items_text names k gs ++ rest_text rest → AllWalked is gs ⊎ WrongMet is gs
  walked k [] [] place read readable same =
      let there = ended_there names all m later h h' line right e rest is_rest same ends in
      inl (record { alike = tt; ended = there.0; entered = there.1 })
  walked k [] (g ∷ gs) place read readable same =
      let here : k ≡ all = omega (arith, place) in
      let later_text = items_text names (k + length (said_in g)) gs in
      let r = All-head (IsReadable names) g gs readable in
      let spelled : m ≡ item_text names all g ++ (later_text ++ rest_text rest) =
      same ∙ append_assoc (item_text names k g) later_text (rest_text rest) ∙ ap (λ n. item_text names n g ++ (later_text ++ rest_text rest)) here in
      inr (record {
        before = [];
        item = g;
        behind = gs;
        items_are = refl;
        alike = tt;
        there = item_there names all m later h h' line right e g (later_text ++ rest_text rest) r (item_whole names named all g r) spelled ends;
      })
  walked k (i ∷ is) [] place read readable same =
      let later_text = items_text names (k + length (said_in i)) is in
      absurd (no_rest names k rest i (later_text ++ m) is_rest read.0 (sym (append_assoc (item_text names k i) later_text m) ∙ same))
  walked k (i ∷ is) (g ∷ gs) place read readable same =
      let r = All-head (IsReadable names) g gs readable in
      let x = items_text names (k + length (said_in i)) is in
      let y = items_text names (k + length (said_in g)) gs in
      let parts = lines_split (item_text names k i) (item_text names k g) (x ++ m) (y ++ rest_text rest) read.0.whole (item_whole names named k g r)
      (sym (append_assoc (item_text names k i) x m) ∙ same ∙ append_assoc (item_text names k g) y (rest_text rest)) in
      let alike = alike_item names k i g read.0 r parts.0 in
      let next : all ≡ k + length (said_in i) + length (saids_of is) = omega (arith, place, length-append (said_in i) (saids_of is)) in
      elim (walked (k + length (said_in i)) is gs next read.1 (All-tail (IsReadable names) g gs readable)
      (parts.1 ∙ ap (λ n. items_text names (k + n) gs ++ rest_text rest) (sym (alike_count names i g alike)))) [
        | inl w ↦ inl (record { alike = (alike, w.alike); ended = w.ended; entered = w.entered })
        | inr w ↦ inr (record {
          before = g ∷ w.before;
          item = w.item;
          behind = w.behind;
          items_are = ap (λ js. g ∷ js) w.items_are;
          alike = (alike, w.alike);
          there = w.there;
        })
      ]

-- ---- the journal

pub reads_back : (names : Names) (r : Replayed) (left later : Option Bytes) (h h' : List Entry) (line right : Text)
    → HasReplayed names r left later h h' line right → ReadsBack names r left later h h' line right
reads_back names r left later h h' line right d named items rest readable is_rest spelled =
    let left_is = front_known (items_text names 0 items ++ rest_text rest) (items_text names 0 d.items) d.mid (sym spelled ∙ d.replays.read) in
    let m = left_is.0 in
    let ends = subst (λ o. EndsSo r.ending names r.entries o later d.past h' line right) left_is.1 d.ends in
    let counted = d.entries in
    let place : r.entries ≡ 0 + length (saids_of d.items) = omega (arith, counted) in
    elim (walked names named r.ending r.entries m later d.past h' line right rest is_rest ends 0 d.items items place d.replays.told readable (sym left_is.2)) [
      | inl w ↦ inl (record {
        entries = map entry_said (saids_of d.items);
        alike = alike_saids names d.items items w.alike;
        entered = w.entered ∙ d.replays.entered;
        count = d.entries ∙ alike_counts names d.items items w.alike;
        lines = d.lines ∙ length_all_zip (IsAlikeItem names) d.items items w.alike;
        counted = d.counted ∙ alike_ends names d.items items w.alike;
        ended = w.ended;
      })
      | inr w ↦
          (let there = w.there in
          let said = there.said in
          let number : r.entries + 1 ≡ length (saids_of w.before) + 1 = ap (λ n. n + 1) (d.entries ∙ alike_counts names d.items w.before w.alike) in
          inr (record {
            before = w.before;
            said = said;
            behind = w.behind;
            items_are = w.items_are ∙ ap (λ i. w.before ++ i ∷ w.behind) there.is;
            entries = map entry_said (saids_of d.items);
            alike = alike_saids names d.items w.before w.alike;
            answered = there.answered;
            entered = there.entered ∙ ap (λ es. es ++ entry_of said.request there.answered ∷ []) d.replays.entered;
            lines = d.lines ∙ length_all_zip (IsAlikeItem names) d.items w.before w.alike;
            ended = there.ended;
            written = there.written ∙ ap (λ n. said_line names n said) number;
            spelled = there.spelled ∙ ap (λ n. line_of names said.caller n (entry_of said.request there.answered)) number;
            differs = there.differs;
          }))
    ]
