-- Journals that are replayed, line by line.
use Rattle.std.proofs.Common.{◌≡◌, ◌∙◌, ◌+◌, ◌++◌, ℕ, Bool, refl, ap, ap₂, sym, subst, List, [], ◌∷◌, length, map, Option, Some, None, append_assoc, append-nil, arith, length-append, codes}
use Rattle.std.proofs.lemmas.List.{append_cancel_right, map-append}
use Rattle.std.proofs.lemmas.List.Elements.{All-nil, All-push}
use Rattle.lus_values.specs.Names.{Text, Names}
use Rattle.lus_requests.specs.declared.request.Entry.{Entry}
use Rattle.lus_devices.specs.Devices.{Bytes, with_front}
use Rattle.lus_devices.proofs.Laws.{with_front-more}
use Rattle.lus_lines.specs.Lines.{IsPlain, IsWholeLine}
use Rattle.lus_replay.specs.declared.line.Verdict.{Verdict}
use Rattle.lus_replay.specs.declared.line.Verdict.TheVariants as verdicts
use Rattle.lus_replay.specs.declared.replaying.Ending.{Ending}
use Rattle.lus_replay.specs.declared.replaying.Ending.TheVariants as endings
use Rattle.lus_replay.specs.declared.replaying.Kind.{Kind}
use Rattle.lus_replay.specs.declared.replaying.Kind.TheVariants as kinds
use Rattle.lus_replay.specs.declared.replaying.Turn.{Turn}
use Rattle.lus_replay.specs.declared.replaying.Turn.TheVariants as turns
use Rattle.lus_replay.specs.Replays.{AreItemsRead, AsksOnly, AsksSo, Counted, CutShort, HasReplayed, IsCutShort, IsItem, IsItemLine, IsItemRead, IsJudged, Item, LineIs, Replays, Told, TurnIs, cut_mark, ends_counted, entry_said, is_count, item_text, items_text, kind_of, said_in, saids_of, told_by}
use Rattle.lus_replay.proofs.Splits.{plain_left}

front_nothing : (left : Option Bytes) → left ≡ with_front [] left
front_nothing None = refl
front_nothing (Some bs) = refl

-- ---- one item more

saids_more : (is : List Item) (i : Item) → saids_of (is ++ i ∷ []) ≡ saids_of is ++ said_in i
saids_more [] i = append-nil (said_in i)
saids_more (j ∷ is) i = ap (λ ss. said_in j ++ ss) (saids_more is i) ∙ sym (append_assoc (said_in j) (saids_of is) (said_in i))

pub items_more : (names : Names) (k : ℕ) (is : List Item) (i : Item)
    → items_text names k (is ++ i ∷ []) ≡ items_text names k is ++ item_text names (k + length (saids_of is)) i
items_more names k [] i =
    let same : k ≡ k + 0 = omega arith in
    append-nil (item_text names k i) ∙ ap (λ m. item_text names m i) same
items_more names k (j ∷ is) i =
    let first = item_text names k j in
    let n = k + length (said_in j) in
    let same : n + length (saids_of is) ≡ k + length (saids_of (j ∷ is)) = omega (arith, length-append (said_in j) (saids_of is)) in
    ap (λ x. first ++ x) (items_more names n is i)
    ∙ sym (append_assoc first (items_text names n is) (item_text names (n + length (saids_of is)) i))
    ∙ ap (λ m. (first ++ items_text names n is) ++ item_text names m i) same

counted_more : (is : List Item) (i : Item) → ends_counted (is ++ i ∷ []) ≡ is_count (kind_of i)
counted_more [] i = refl
counted_more (j ∷ []) i = refl
counted_more (j ∷ k ∷ is) i = counted_more (k ∷ is) i

told_of : (i : Item) → told_by (kind_of i) ≡ length (said_in i)
told_of (Told s) = refl
told_of Counted = refl
told_of (CutShort t) = refl

pub replays_start : (names : Names) (left : Option Bytes) (h : List Entry) → Replays names left left h h []
replays_start names left h = record { read = front_nothing left; entered = sym (append-nil h); plain = All-nil IsItem; told = tt }

read_more : (names : Names) (k : ℕ) (is : List Item) (i : Item) → AreItemsRead names k is → IsItemRead names (k + length (saids_of is)) i
    → AreItemsRead names k (is ++ i ∷ [])
read_more names k [] i so_far item =
    let same : k + 0 ≡ k = omega arith in (subst (λ n. IsItemRead names n i) same item, tt)
read_more names k (j ∷ is) i so_far item =
    let n = k + length (said_in j) in
    let same : k + length (saids_of (j ∷ is)) ≡ n + length (saids_of is) = omega (arith, length-append (said_in j) (saids_of is)) in
    (so_far.0, read_more names n is i so_far.1 (subst (λ m. IsItemRead names m i) same item))

-- ---- a line that is judged

-- what a crash left of a line with its line feed is plain
tail_plain : (line tail : Text) → IsWholeLine line → line ≡ tail ++ cut_mark → IsPlain tail
tail_plain line tail whole is =
    let same : whole.bytes ≡ tail ++ codes "# cut short" =
    append_cancel_right whole.bytes (tail ++ codes "# cut short") (10 ∷ [])
    (sym whole.ended ∙ is ∙ sym (append_assoc tail (codes "# cut short") (10 ∷ []))) in
    plain_left tail (codes "# cut short") (subst IsPlain same whole.plain)

pub cut_line : (names : Names) (k : ℕ) (line : Text) (h h' : List Entry) → IsWholeLine line → IsCutShort line → h' ≡ h
    → IsItemLine kinds.CutShort names k line h h'
cut_line names k line h h' whole cut still =
    record { item = CutShort cut.0; kind_is = refl; spelled = cut.1; entered = still ∙ sym (append-nil h); plain = tail_plain line cut.0 whole cut.1; asks = tt }

pub count_line : (names : Names) (k : ℕ) (line right : Text) (h : List Entry) → line ≡ item_text names k Counted
    → LineIs (turns.Item kinds.Count) names k line right h h
count_line names k line right h is = record { item = Counted; kind_is = refl; spelled = is; entered = sym (append-nil h); plain = tt; asks = tt }

pub entry_line : (names : Names) (k : ℕ) (line right : Text) (h h' : List Entry) (v : Verdict) → v ≡ verdicts.Right
    → IsJudged v names (k + 1) line right h h' → LineIs (turns.Item kinds.Entry) names k line right h h'
entry_line names k line right h h' v is judged =
    let entry = subst (λ w. IsJudged w names (k + 1) line right h h') is judged in
    record {
      item = Told entry.said;
      kind_is = refl;
      spelled = entry.spelled;
      entered = entry.entered;
      plain = tt;
      asks = subst (λ l. AsksOnly names (k + 1) l entry.said.caller entry.said.request) entry.spelled entry.only;
    }

-- a line that was read and is judged
pub turned : (names : Names) (k : ℕ) (left later : Option Bytes) (h h' : List Entry) (line right : Text) (t : Turn) → IsWholeLine line
    → left ≡ with_front line later → LineIs t names k line right h h' → TurnIs t names k left later h h' line right
turned names k left later h h' line right (turns.Item kind) whole read is = (read, is, whole)
turned names k left later h h' line right (turns.Ended endings.End) whole read is = absurd is
turned names k left later h h' line right (turns.Ended endings.Next) whole read is = (read, whole, is.0, is.1, is.2)
turned names k left later h h' line right (turns.Ended endings.Cut) whole read is = absurd is
turned names k left later h h' line right (turns.Ended endings.Wrong) whole read is = (read, is.0, whole, is.1)
turned names k left later h h' line right (turns.Ended endings.NoEntry) whole read is = (read, whole, is)

-- ---- the journal

module _ (names : Names) (left mid : Option Bytes) (h m : List Entry) where
  -- so many entries and lines were read, the last of which is the number of entries or not
  abbrev pub SoFar : ℕ → ℕ → Bool → Type 0
  SoFar k n b = (is : List Item) × (k ≡ length (saids_of is)) × (n ≡ length is) × (b ≡ ends_counted is) × Replays names left mid h m is

module _ (names : Names) (left mid : Option Bytes) (h m : List Entry) (k n : ℕ) (b : Bool) (so_far : SoFar names left mid h m k n b)
    (later : Option Bytes) (h' : List Entry) (line right : Text) where
  -- one more line is an item
  item_more : (kind : Kind) → TurnIs (turns.Item kind) names k mid later m h' line right
      → SoFar names left later h h' (k + told_by kind) (n + 1) (is_count kind)
  item_more kind turn =
      let is = so_far.0 in
      let item = turn.1 in
      let i = item.item in
      let told : told_by kind ≡ length (said_in i) = ap told_by item.kind_is ∙ told_of i in
      let entries = so_far.1 in
      let lines = so_far.2 in
      let so = so_far.4 in
      let more : k + told_by kind ≡ length (saids_of (is ++ i ∷ [])) =
      ap₂ (λ x y. x + y) entries told ∙ sym (length-append (saids_of is) (said_in i)) ∙ ap length (sym (saids_more is i)) in
      let longer : n + 1 ≡ length (is ++ i ∷ []) = omega (arith, length-append is (i ∷ []), lines) in
      let place : k ≡ 0 + length (saids_of is) = omega (arith, entries) in
      let spelled : line ≡ item_text names (0 + length (saids_of is)) i = item.spelled ∙ ap (λ j. item_text names j i) place in (
        is ++ i ∷ [],
        more,
        longer,
        ap is_count item.kind_is ∙ sym (counted_more is i),
        record {
          read = so.read ∙ ap (with_front (items_text names 0 is)) turn.0 ∙ with_front-more later (items_text names 0 is) line
              ∙ ap (λ t. with_front t later) (ap (λ t. items_text names 0 is ++ t) spelled ∙ sym (items_more names 0 is i));
          entered = item.entered ∙ ap (λ es. es ++ map entry_said (said_in i)) so.entered
              ∙ append_assoc h (map entry_said (saids_of is)) (map entry_said (said_in i))
              ∙ ap (λ es. h ++ es) (sym (map-append entry_said (saids_of is) (said_in i)) ∙ ap (map entry_said) (sym (saids_more is i)));
          plain = All-push IsItem is i so.plain item.plain;
          told = read_more names 0 is i so.told
              (record { whole = subst IsWholeLine spelled turn.2; asks = subst (λ j. AsksSo names j i) place item.asks });
        },
      )

  pub replays_more : (t : Turn) (kind : Kind) (told : ℕ) (counted : Bool) → t ≡ turns.Item kind → told ≡ told_by kind → counted ≡ is_count kind
      → TurnIs t names k mid later m h' line right → SoFar names left later h h' (k + told) (n + 1) counted
  replays_more t kind told counted is told_is counted_is turn =
      subst (λ x. SoFar names left later h h' (k + told) (n + 1) x) (sym counted_is)
      (subst (λ x. SoFar names left later h h' (k + x) (n + 1) (is_count kind)) (sym told_is)
      (item_more kind (subst (λ x. TurnIs x names k mid later m h' line right) is turn)))

  -- the journal ended
  pub replayed : (t : Turn) (ending : Ending) → t ≡ turns.Ended ending → TurnIs t names k mid later m h' line right
      → HasReplayed names (record { entries = k; lines = n; is_counted = b; ending = ending }) left later h h' line right
  replayed t ending is turn = record {
    items = so_far.0;
    mid = mid;
    past = m;
    entries = so_far.1;
    lines = so_far.2;
    counted = so_far.3;
    replays = so_far.4;
    ends = subst (λ x. TurnIs x names k mid later m h' line right) is turn;
  }
