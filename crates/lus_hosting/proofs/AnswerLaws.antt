-- What becomes of a line is a turn, of which all is written, or a part.
use Rattle.std.proofs.Common.{◌≡◌, ◌∙◌, ◌==◌, ◌&&◌, ◌++◌, ◌<◌, ℕ, zero, suc, true, not, refl, ap, ap₂, sym, subst, inl, inr, List, [], ◌∷◌, length, take, Option, Some, None, append_assoc, append-nil, arith, codes, nat_le, nat_lt, IsUtf8}
use Rattle.std.specs.List.{list_all}
use Rattle.std.proofs.lemmas.Bool.{and_parts, true≢false}
use Rattle.indexmap.specs.IndexMap.{get_by_text}
use Rattle.lus_values.specs.Names.{Text}
use Rattle.lus_program.specs.Programs.{Program}
use Rattle.lus_requests.specs.declared.request.Entry.{Entry}
use Rattle.lus_requests.specs.declared.request.Request.{Request}
use Rattle.lus_devices.specs.Devices.{Bytes, WritesBeginning, with_front, with_text}
use Rattle.lus_devices.proofs.Laws.{with_text-nothing}
use Rattle.lus_lines.specs.Lines.{IsNext, IsPlain, IsWholeLine, most_line_bytes}
use Rattle.lus_play.specs.Plays.{ended}
use Rattle.lus_sessions.specs.Calls.{IsCallTo}
use Rattle.lus_replay.specs.Replays.{said_line}
use Rattle.lus_replay.specs.declared.line.Verdict.{Verdict}
use Rattle.lus_replay.specs.declared.line.Verdict.TheVariants as verdicts
use Rattle.lus_live_instance.specs.MachineSpecs.Constructors.{names_of}
use Rattle.lus_hosting.specs.Hosts.{Answers, HasCalledOn, HasDenied, HasReplayedOn, HasTurn, IsAnswered, Keeps, ReadsTurn, TurnFails, WritesSome, WritesTurn, kind_of, logged}
use Rattle.lus_hosting.specs.Logs.{IsWord, Logged, is_named, is_shown, is_whole, most_name_bytes, next_of}
use Rattle.lus_hosting.specs.Spellings.{Spelling}
use Rattle.lus_hosting.specs.Turns.{AreTaken, Called, Denial, Denied, IsCallLine, IsNoCall, IsNote, IsSpelledSo, Noted, Reads, Replayed, added_by, answer_at, calls, entry_at, everything}
use Rattle.lus_hosting.specs.declared.instances.Instances.{Instances}
use Rattle.lus_hosting.specs.declared.turns.Kind.{Kind}
use Rattle.lus_hosting.specs.declared.turns.Kind.TheVariants as kinds
use Rattle.lus_hosting.proofs.HostLaws.{all_lawful}

-- ---- words

-- `-` is a word
pub dash_word : IsWord (codes "-")
dash_word zero few is = omega (arith, is)
dash_word (suc i) few is = omega (arith, few)

whole_word : (w : Text) → is_whole w ≡ true → IsWord w
whole_word [] all i few is = omega (arith, few)
whole_word (b ∷ bs) all zero few is =
    true≢false (sym (subst (λ c. not (c == 32) ≡ true) is (and_parts (not (b == 32)) (list_all (λ c. not (c == 32)) bs) all).0))
whole_word (b ∷ bs) all (suc i) few is =
    whole_word bs (and_parts (not (b == 32)) (list_all (λ c. not (c == 32)) bs) all).1 i (omega (arith, few)) is

-- a name is a word
pub named_word : (w : Text) → is_named w ≡ true → IsWord w
named_word w named =
    let some = and_parts (nat_lt 0 (length w)) (nat_le (length w) most_name_bytes && (is_whole w && is_shown w)) named in
    let few = and_parts (nat_le (length w) most_name_bytes) (is_whole w && is_shown w) some.1 in
    whole_word w (and_parts (is_whole w) (is_shown w) few.1).0

-- the names of a call are words
pub spelled_words : (reads : Reads) (line i c k : Bytes) → IsSpelledSo reads line i c k → IsWord i × IsWord c
spelled_words everything line i c k spelled = (spelled.1, spelled.2)
spelled_words (calls None) line i c k spelled = (named_word i spelled.1, named_word c spelled.2)
spelled_words (calls (Some n)) line i c k spelled = (named_word i spelled.1, named_word c spelled.2)

-- ---- what becomes of a line

module _ (reads : Reads) (p : Program) (f : ℕ) (j s : Spelling) (log : List Logged) (line entry text : Bytes) (new : Instances) where
  kept : Keeps p f log new → Keeps p f (log ++ []) new
  kept keeps = subst (λ l. Keeps p f l new) (sym (append-nil log)) keeps

  pub answered_call : (instance caller call : Text) (r : Request) (n : ℕ) (e : Entry) → IsUtf8 line → IsSpelledSo reads line instance caller call
      → IsCallTo p (names_of p) f call (Some r) → HasCalledOn p f log instance r n e new
      → entry ≡ j.tells instance caller n e → text ≡ s.tells instance caller n e → IsAnswered kinds.Called reads p f j s log line entry text new
  answered_call instance caller call r n e utf8 spelled asks called noted told = record {
    turn = Called line (logged instance caller r called.0);
    kind = refl;
    so = record { call = call; spelled = spelled; characters = utf8; asks = asks };
    line_is = refl;
    entry_is = noted ∙ ap₂ (λ k d. j.tells instance caller k d) called.2 called.1;
    text_is = told ∙ ap₂ (λ k d. s.tells instance caller k d) called.2 called.1;
    keeps = called.3 caller;
  }

  pub answered_denied : (k : Kind) (instance caller reason : Text) → IsNoCall reads p f line → IsWord instance → IsWord caller → IsPlain reason
      → HasDenied k s instance caller reason entry text → Keeps p f log new → Answers k reads p f j s log line entry text new
  answered_denied k instance caller reason none one other plain denied keeps =
      let d : Denial = record { instance = instance; caller = caller; reason = reason } in
      subst (λ i. Answers i reads p f j s log line entry text new) (sym denied.0)
      (record {
        turn = Denied line d;
        kind = refl;
        so = (none, record { instance = one; caller = other; reason = plain });
        line_is = refl;
        entry_is = denied.1;
        text_is = denied.2;
        keeps = kept keeps;
      })

  pub answered_note : AreTaken reads × IsNote line → entry ≡ [] → text ≡ [] → Keeps p f log new → IsAnswered kinds.Noted reads p f j s log line entry text new
  answered_note note none nothing keeps = record {
    turn = Noted line;
    kind = refl;
    so = note;
    line_is = refl;
    entry_is = none;
    text_is = nothing;
    keeps = kept keeps;
  }

  pub answered_entry : (v : Verdict) (instance said right : Text) → AreTaken reads → line ≡ instance ++ 32 ∷ said → IsWord instance
      → HasReplayedOn p f log instance (said ++ 10 ∷ []) right v new → entry ≡ [] → text ≡ [] → Answers (kind_of v) reads p f j s log line entry text new
  answered_entry verdicts.Right instance said right taken spelled one replayed none nothing = record {
    turn = Replayed (record { instance = instance; said = replayed.0 });
    kind = refl;
    so = (taken, one);
    line_is = ap ended spelled ∙ append_assoc instance (32 ∷ said) (10 ∷ []) ∙ ap (λ t. instance ++ 32 ∷ t) replayed.1
        ∙ sym (append_assoc instance (codes " ") (said_line (names_of p) (next_of instance log) replayed.0));
    entry_is = none;
    text_is = nothing;
    keeps = replayed.2;
  }
  answered_entry verdicts.Wrong instance said right taken spelled one replayed none nothing = (taken, none, nothing)
  answered_entry verdicts.NoEntry instance said right taken spelled one replayed none nothing = (taken, none, nothing)

-- the line of these words is no call where what it asks is none
pub no_call_line : (reads : Reads) (p : Program) (f : ℕ) (line instance caller call : Text)
    → ((i c k : Text) → IsSpelledSo reads line i c k → (instance ≡ i) × (caller ≡ c) × (call ≡ k))
    → IsCallTo p (names_of p) f call None → (l : Logged) → IsCallLine reads p f line l → ⊥
no_call_line reads p f line instance caller call words none l is =
    let same = words l.instance l.said.caller is.call is.spelled in
    let asks = is.asks in
    let nothing = subst (λ k. IsCallTo p (names_of p) f k None) same.2 none asks.0 in
    absurd (none_some _ (sym nothing ∙ asks.1))
  where
    none_some : (r : Request) → (let o : Option Request = None in o) ≡ Some r → ⊥
    none_some r e = absurd (cc)

-- ---- what is read

module _ (reads : Reads) (p : Program) (f : ℕ) (j s : Spelling) (log : List Logged) (entry text : Bytes) (new : Instances) (left later : Option Bytes) where
  has_turn : (k : Kind) (line : Bytes) → IsAnswered k reads p f j s log line entry text new → IsNext line left later
      → HasTurn k reads p f log left later (λ turn. (entry ≡ entry_at j log turn) × (text ≡ answer_at s log turn)) new
  has_turn k line a next = record {
    turn = a.turn;
    kind = a.kind;
    is = record { whole = subst IsWholeLine a.line_is (record { bytes = line; ended = refl; plain = next.plain }); so = a.so };
    read = next.read ∙ ap (λ t. with_front t later) a.line_is;
    said = (a.entry_is, a.text_is);
    keeps = a.keeps;
  }

  pub read_answered : (k : Kind) (line : Bytes) → Answers k reads p f j s log line entry text new → IsNext line left later
      → ReadsTurn k reads p f j s log left later entry text new
  read_answered kinds.Called line a next = has_turn kinds.Called line a next
  read_answered kinds.Replayed line a next = has_turn kinds.Replayed line a next
  read_answered kinds.Noted line a next = has_turn kinds.Noted line a next
  read_answered kinds.Denied line a next = has_turn kinds.Denied line a next
  read_answered kinds.Wrong line a next = (a.0, (a.1, a.2))
  read_answered kinds.NoEntry line a next = (a.0, (a.1, a.2))
  read_answered kinds.Unfinished line a next = absurd a
  read_answered kinds.Ended line a next = absurd a

  pub read_long : (k : Kind) (reason : Text) → IsPlain reason → HasDenied k s (codes "-") (codes "-") reason entry text → Keeps p f log new
      → (whole : Bytes) × IsNext whole left later × (most_line_bytes < length whole) → ReadsTurn k reads p f j s log left later entry text new
  read_long k reason plain denied keeps long =
      read_answered k long.0
      (answered_denied reads p f j s log long.0 entry text new k (codes "-") (codes "-") reason (inl long.2) dash_word dash_word plain denied keeps) long.1

-- ---- what is written

silent : (w w' : Option Bytes) (text : Bytes) → text ≡ [] → w' ≡ with_text w text → w' ≡ w
silent w w' text nothing wrote = wrote ∙ ap (with_text w) nothing ∙ sym (with_text-nothing w)

quiet : (w w' : Option Bytes) (text : Bytes) → text ≡ [] → WritesBeginning w w' text → w' ≡ w
quiet w w' text nothing began =
    began.1 ∙ ap (λ t. with_text w (take began.0 t)) nothing ∙ ap (with_text w) (take_nothing began.0) ∙ sym (with_text-nothing w)
  where
    take_nothing : (n : ℕ) → take n (let t : Bytes = [] in t) ≡ []
    take_nothing zero = refl
    take_nothing (suc n) = refl

module _ (reads : Reads) (p : Program) (f : ℕ) (j s : Spelling) (log : List Logged) (entry text : Bytes) (new : Instances)
    (left later l l' w w' : Option Bytes) where
  with_answer : (k : Kind) → HasTurn k reads p f log left later (λ turn. (entry ≡ entry_at j log turn) × (text ≡ answer_at s log turn)) new
      → (l' ≡ with_text l entry) × (w' ≡ with_text w text)
      → HasTurn k reads p f log left later (λ turn. (l' ≡ with_text l (entry_at j log turn)) × (w' ≡ with_text w (answer_at s log turn))) new
  with_answer k has wrote = record {
    turn = has.turn;
    kind = has.kind;
    is = has.is;
    read = has.read;
    said = (wrote.0 ∙ ap (with_text l) has.said.0, wrote.1 ∙ ap (with_text w) has.said.1);
    keeps = has.keeps;
  }

  none_written : (entry ≡ []) × (text ≡ []) → (l' ≡ with_text l entry) × (w' ≡ with_text w text) → (l' ≡ l) × (w' ≡ w)
  none_written nothing wrote = (silent l l' entry nothing.0 wrote.0, silent w w' text nothing.1 wrote.1)

  pub written : (k : Kind) → ReadsTurn k reads p f j s log left later entry text new → (l' ≡ with_text l entry) × (w' ≡ with_text w text)
      → WritesTurn k reads p f j s log left later l l' w w' new
  written kinds.Called has wrote = with_answer kinds.Called has wrote
  written kinds.Replayed has wrote = with_answer kinds.Replayed has wrote
  written kinds.Noted has wrote = with_answer kinds.Noted has wrote
  written kinds.Denied has wrote = with_answer kinds.Denied has wrote
  written kinds.Wrong nothing wrote = (nothing.0, none_written nothing.1 wrote)
  written kinds.NoEntry nothing wrote = (nothing.0, none_written nothing.1 wrote)
  written kinds.Unfinished has wrote = (has.0, has.1, has.2, none_written has.3 wrote, has.4)
  written kinds.Ended has wrote = (has.0, none_written has.1 wrote, has.2)

  part_of : (k : Kind) → HasTurn k reads p f log left later (λ turn. (entry ≡ entry_at j log turn) × (text ≡ answer_at s log turn)) new
      → WritesSome entry text l l' w w' → TurnFails reads p f j s log left l l' w w'
  part_of k has some = inr (record {
    turn = has.turn;
    later = later;
    is = has.is;
    read = has.read;
    wrote = subst (λ t. WritesSome (entry_at j log has.turn) t l l' w w') has.said.1 (subst (λ t. WritesSome t text l l' w w') has.said.0 some);
    lawful = all_lawful p f (log ++ added_by has.turn) (get_by_text new.by_name) has.keeps;
  })

  none_of : (entry ≡ []) × (text ≡ []) → WritesSome entry text l l' w w' → TurnFails reads p f j s log left l l' w w'
  none_of nothing some =
      elim some [
        | inl began ↦ inl (quiet l l' entry nothing.0 began.0, began.1)
        | inr began ↦ inl (silent l l' entry nothing.0 began.0, quiet w w' text nothing.1 began.1)
      ]

  pub begun : (k : Kind) → ReadsTurn k reads p f j s log left later entry text new → WritesSome entry text l l' w w'
      → TurnFails reads p f j s log left l l' w w'
  begun kinds.Called has some = part_of kinds.Called has some
  begun kinds.Replayed has some = part_of kinds.Replayed has some
  begun kinds.Noted has some = part_of kinds.Noted has some
  begun kinds.Denied has some = part_of kinds.Denied has some
  begun kinds.Wrong nothing some = none_of nothing.1 some
  begun kinds.NoEntry nothing some = none_of nothing.1 some
  begun kinds.Unfinished has some = none_of has.3 some
  begun kinds.Ended has some = none_of has.1 some
