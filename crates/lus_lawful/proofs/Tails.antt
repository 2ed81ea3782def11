-- Journals that can be read back are read as they are spelled, also where bytes without a line feed stand behind them.
use Rattle.std.proofs.Common.{◌≡◌, ◌∙◌, ◌⊎◌, inl, inr, ◌+◌, ◌++◌, ℕ, refl, ap, ap₂, sym, subst, List, [], ◌∷◌, length, Option, Some, None, append_assoc, append-nil, arith, length-append}
use Rattle.std.specs.List.{All, AllZip, concat}
use Rattle.std.proofs.lemmas.List.Elements.{All-head, All-tail}
use Rattle.lus_values.specs.Names.{Text, Names}
use Rattle.lus_requests.specs.declared.request.Entry.{Entry}
use Rattle.lus_devices.specs.Devices.{Bytes, with_front}
use Rattle.lus_lines.specs.Lines.{IsPlain, IsWholeLine}
use Rattle.lus_replay.specs.declared.replaying.Ending.{Ending}
use Rattle.lus_replay.specs.declared.replaying.Ending.TheVariants as endings
use Rattle.lus_replay.specs.declared.replaying.Replayed.{Replayed}
use Rattle.lus_replay.specs.Replays.{AreItemsRead, ArePlain, EndsSo, HasFoundWrong, HasReplayed, IsAlike, IsReadable, Item, ReadsBack, ends_counted, item_text, items_text, said_in, saids_of}
use Rattle.lus_replay.proofs.Apart.{item_whole}
use Rattle.lus_replay.proofs.Follows.{at_end, front_known, reads_back}
use Rattle.lus_replay.proofs.Splits.{line_feeds, lines_split}
use Rattle.lus_lawful.specs.Findings.{IsBehind, behind_text}

-- ---- whole lines

abbrev AreWhole : List Text → Type 0
AreWhole [] = Unit {0}
AreWhole (l ∷ ls) = IsWholeLine l × AreWhole ls

whole_append : (ls ks : List Text) → AreWhole ls → AreWhole ks → AreWhole (ls ++ ks)
whole_append [] ks first second = second
whole_append (l ∷ ls) ks first second = (first.0, whole_append ls ks first.1 second)

whole_right : (ls ks : List Text) → AreWhole (ls ++ ks) → AreWhole ks
whole_right [] ks all = all
whole_right (l ∷ ls) ks all = whole_right ls ks all.1

joined_append : (ls ks : List Text) → concat (ls ++ ks) ≡ concat ls ++ concat ks
joined_append [] ks = refl
joined_append (l ∷ ls) ks = ap (λ t. l ++ t) (joined_append ls ks) ∙ sym (append_assoc l (concat ls) (concat ks))

-- Whole lines in front of a text that has whole lines in front of bytes without a line feed: the lines go on, up to these bytes.
whole_front : (ls ms : List Text) (x tail : Text) → AreWhole ls → AreWhole ms → IsPlain tail → concat ls ++ x ≡ concat ms ++ tail
    → (more : List Text) × (ms ≡ ls ++ more) × (x ≡ concat more ++ tail)
whole_front [] ms x tail first second plain same = (ms, refl, same)
whole_front (l ∷ ls) [] x tail first second plain same =
    absurd (line_feeds l (concat ls ++ x) first.0 (subst IsPlain (sym same ∙ append_assoc l (concat ls) x) plain))
whole_front (l ∷ ls) (m ∷ ms) x tail first second plain same =
    let parts = lines_split l m (concat ls ++ x) (concat ms ++ tail) first.0 second.0
    (sym (append_assoc l (concat ls) x) ∙ same ∙ append_assoc m (concat ms) tail) in
    let rest = whole_front ls ms x tail first.1 second.1 plain parts.1 in
    (rest.0, ap₂ (λ k ks. k ∷ ks) (sym parts.0) rest.1, rest.2)

-- ---- items

abbrev item_lines : Names → ℕ → List Item → List Text
item_lines names k [] = []
item_lines names k (i ∷ is) = item_text names k i ∷ item_lines names (k + length (said_in i)) is

lines_joined : (names : Names) (k : ℕ) (is : List Item) → concat (item_lines names k is) ≡ items_text names k is
lines_joined names k [] = refl
lines_joined names k (i ∷ is) = ap (λ t. item_text names k i ++ t) (lines_joined names (k + length (said_in i)) is)

read_whole : (names : Names) (k : ℕ) (is : List Item) → AreItemsRead names k is → AreWhole (item_lines names k is)
read_whole names k [] read = tt
read_whole names k (i ∷ is) read = (read.0.whole, read_whole names (k + length (said_in i)) is read.1)

readable_whole : (names : Names) → ArePlain names → (k : ℕ) (is : List Item) → All (IsReadable names) is → AreWhole (item_lines names k is)
readable_whole names named k [] readable = tt
readable_whole names named k (i ∷ is) readable = (
  item_whole names named k i (All-head (IsReadable names) i is readable),
  readable_whole names named (k + length (said_in i)) is (All-tail (IsReadable names) i is readable),
)

-- ---- a journal

-- it ends at the end, within a line, or before another journal
abbrev pub EndsTo : Option (Text × Text) → Text → Ending → Text → Option Bytes → Type 0
EndsTo None [] e line later = e ≡ endings.End
EndsTo None (b ∷ tail) e line later = e ≡ endings.Cut
EndsTo (Some next) tail e line later = (e ≡ endings.Next) × (line ≡ next.0) × (later ≡ Some next.1)

-- each item was read, up to what is behind them
pub record HasReadTo (names : Names) (r : Replayed) (items : List Item) (rest : Option (Text × Text)) (tail : Text) (later : Option Bytes)
    (h h' : List Entry) (line : Text) : Type 0 where
  pub entries : List Entry
  pub alike : AllZip (IsAlike names) entries (saids_of items)
  pub entered : h' ≡ h ++ entries
  pub lines : r.lines ≡ length items
  pub counted : r.is_counted ≡ ends_counted items
  pub ended : EndsTo rest tail r.ending line later

module _ (names : Names) (named : ArePlain names) (r : Replayed) (left later : Option Bytes) (h h' : List Entry) (line right : Text)
    (d : HasReplayed names r left later h h' line right) (items : List Item) (readable : All (IsReadable names) items) where
  abbrev whole_text : Text
  whole_text = items_text names 0 items

  abbrev read_text : Text
  read_text = items_text names 0 d.items

  abbrev lines_read : List Text
  lines_read = item_lines names 0 d.items

  abbrev all_lines : List Text
  all_lines = item_lines names 0 items

  all_whole : AreWhole all_lines
  all_whole = readable_whole names named 0 items readable

  module _ (b : ℕ) (tail : Text) (plain : IsPlain (b ∷ tail)) (left_is : left ≡ Some (whole_text ++ b ∷ tail)) where
    abbrev Found : Type 0
    Found = HasReadTo names r items None (b ∷ tail) later h h' line ⊎ HasFoundWrong names r items h h' line right

    -- what was left behind the items that were read
    mid_is : (m : Text) × (d.mid ≡ Some m) × (whole_text ++ b ∷ tail ≡ read_text ++ m)
    mid_is = front_known (whole_text ++ b ∷ tail) read_text d.mid (sym left_is ∙ d.replays.read)

    -- whole lines behind those, and what is behind them
    behind : (ls : List Text) (x : Text) → AreWhole ls → read_text ++ (concat ls ++ x) ≡ whole_text ++ b ∷ tail
        → (more : List Text) × (all_lines ≡ (lines_read ++ ls) ++ more) × (x ≡ concat more ++ b ∷ tail)
    behind ls x whole same =
        let front : concat (lines_read ++ ls) ≡ read_text ++ concat ls =
        joined_append lines_read ls ∙ ap (λ t. t ++ concat ls) (lines_joined names 0 d.items) in
        let text : concat (lines_read ++ ls) ++ x ≡ concat all_lines ++ b ∷ tail =
        ap (λ t. t ++ x) front ∙ append_assoc read_text (concat ls) x ∙ same ∙ ap (λ t. t ++ b ∷ tail) (sym (lines_joined names 0 items)) in
        whole_front (lines_read ++ ls) all_lines x (b ∷ tail) (whole_append lines_read ls (read_whole names 0 d.items d.replays.told) whole) all_whole
        plain text

    -- the same lines with nothing behind them are read so
    bare_text : (ls more : List Text) → all_lines ≡ (lines_read ++ ls) ++ more → whole_text ≡ read_text ++ (concat ls ++ concat more)
    bare_text ls more is =
        sym (lines_joined names 0 items) ∙ ap concat is ∙ joined_append (lines_read ++ ls) more
        ∙ ap (λ t. t ++ concat more) (joined_append lines_read ls ∙ ap (λ t. t ++ concat ls) (lines_joined names 0 d.items))
        ∙ append_assoc read_text (concat ls) (concat more)

    bare : (e : Ending) (x y : Text) (l : Text) → whole_text ≡ read_text ++ x
        → EndsSo e names r.entries (Some x) (Some y) d.past h' l right
        → HasReplayed names (record { entries = r.entries; lines = r.lines; is_counted = r.is_counted; ending = e }) (Some whole_text) (Some y) h h' l right
    bare e x y l is ends = record {
      items = d.items;
      mid = Some x;
      past = d.past;
      entries = d.entries;
      lines = d.lines;
      counted = d.counted;
      replays = record { read = ap Some is; entered = d.replays.entered; plain = d.replays.plain; told = d.replays.told };
      ends = ends;
    }

    bare_left : Some whole_text ≡ Some (whole_text ++ [])
    bare_left = ap Some (sym (append-nil whole_text))

    abbrev with_ending : Ending → Replayed
    with_ending e = record { entries = r.entries; lines = r.lines; is_counted = r.is_counted; ending = e }

    -- a line is none of the items'
    elsewhere : (e : Ending) → r.ending ≡ e → (e ≡ endings.End → ⊥) → IsWholeLine line → d.mid ≡ with_front line later
        → ((x : Text) → EndsSo e names r.entries (Some (line ++ x)) (Some x) d.past h' line right) → Found
    elsewhere e is no_end whole mid ends =
        let m = mid_is in
        let known = front_known m.0 line later (sym m.1 ∙ mid) in
        let text : read_text ++ ((line ++ []) ++ known.0) ≡ whole_text ++ b ∷ tail =
        ap (λ t. read_text ++ (t ++ known.0)) (append-nil line) ∙ ap (λ t. read_text ++ t) (sym known.2) ∙ sym m.2 in
        let more = behind (line ∷ []) known.0 (whole, tt) text in
        let x = concat more.0 in
        let spelled : whole_text ≡ read_text ++ (line ++ x) =
        bare_text (line ∷ []) more.0 more.1 ∙ ap (λ t. read_text ++ (t ++ x)) (append-nil line) in
        elim (reads_back names (with_ending e) (Some whole_text) (Some x) h h' line right (bare e (line ++ x) x line spelled (ends x)) named items None
        readable tt bare_left) [
          | inl a ↦ absurd (no_end a.ended.0)
          | inr w ↦ inr (record {
            before = w.before;
            said = w.said;
            behind = w.behind;
            items_are = w.items_are;
            entries = w.entries;
            alike = w.alike;
            answered = w.answered;
            entered = w.entered;
            lines = w.lines;
            ended = is ∙ w.ended;
            written = w.written;
            spelled = w.spelled;
            differs = w.differs;
          })
        ]

    -- these bytes are the last
    at_last : (m : Text) → d.mid ≡ Some m → whole_text ++ b ∷ tail ≡ read_text ++ m → IsPlain m → r.ending ≡ endings.Cut → h' ≡ d.past → Found
    at_last m mid same m_plain is kept =
        let more = behind [] m tt (sym same) in go more.0 more.1 more.2
      where
        go : (ks : List Text) → all_lines ≡ (lines_read ++ []) ++ ks → m ≡ concat ks ++ b ∷ tail → Found
        go (k ∷ ks) lines_are rest =
            let whole = whole_right (lines_read ++ []) (k ∷ ks) (subst AreWhole lines_are all_whole) in
            absurd (line_feeds k (concat ks ++ b ∷ tail) whole.0 (subst IsPlain (rest ∙ append_assoc k (concat ks) (b ∷ tail)) m_plain))
        go [] lines_are rest =
            let d' = bare endings.End [] [] [] (bare_text [] [] lines_are) (record { plain = refl; read = refl; over = refl }, kept) in
            elim (reads_back names (with_ending endings.End) (Some whole_text) (Some []) h h' [] right d' named items None readable tt bare_left) [
              | inl a ↦ inl (record { entries = a.entries; alike = a.alike; entered = a.entered; lines = a.lines; counted = a.counted; ended = is })
              | inr w ↦ absurd (let never : endings.End ≡ endings.Wrong = w.ended in cc)
            ]

    cut_there : (e : Ending) → r.ending ≡ e → EndsSo e names r.entries d.mid later d.past h' line right → Found
    cut_there endings.End is ends =
        let m = mid_is in
        let end = at_end m.0 [] later (sym m.1 ∙ ends.0.read) ends.0.over in
        let more = behind [] m.0 tt (sym m.2) in
        let none = ap length (sym end.1 ∙ more.2) in
        let all = length-append (concat more.0) (b ∷ tail) in
        absurd (omega (arith, none, all))
    cut_there endings.Cut is ends =
        let m = mid_is in
        let end = at_end m.0 line later (sym m.1 ∙ ends.0.read) ends.0.over in
        at_last m.0 m.1 m.2 (subst IsPlain (sym end.1) ends.0.plain) is ends.2
    cut_there endings.Next is ends =
        elsewhere endings.Next is (λ same. cc) ends.1 ends.0 (λ x. (refl, ends.1, ends.2, ends.3, ends.4))
    cut_there endings.Wrong is ends = elsewhere endings.Wrong is (λ same. cc) ends.2 ends.0 (λ x. (refl, ends.1, ends.2, ends.3))
    cut_there endings.NoEntry is ends = elsewhere endings.NoEntry is (λ same. cc) ends.1 ends.0 (λ x. (refl, ends.1, ends.2))

  pub reads_to : ReadsBack names r left later h h' line right → (rest : Option (Text × Text)) (tail : Text) → IsBehind rest tail
      → left ≡ Some (whole_text ++ behind_text rest tail)
      → HasReadTo names r items rest tail later h h' line ⊎ HasFoundWrong names r items h h' line right
  reads_to back None [] is left_is =
      elim (back named items None readable tt left_is) [
        | inl a ↦ inl (record { entries = a.entries; alike = a.alike; entered = a.entered; lines = a.lines; counted = a.counted; ended = a.ended.0 })
        | inr w ↦ inr w
      ]
  reads_to back None (b ∷ tail) is left_is = cut_there b tail is left_is r.ending refl d.ends
  reads_to back (Some next) tail is left_is =
      elim (back named items (Some next) readable is.0 left_is) [
        | inl a ↦ inl (record { entries = a.entries; alike = a.alike; entered = a.entered; lines = a.lines; counted = a.counted; ended = a.ended })
        | inr w ↦ inr w
      ]
