-- What a line of a log is, by what was replayed and by its words.
use Rattle.std.proofs.Common.{◌≡◌, ◌∙◌, ◌++◌, ◌<◌, ℕ, refl, ap, sym, subst, List, [], ◌∷◌, length, Option, append_assoc, arith, codes, IsUtf8}
use Rattle.std.proofs.lemmas.List.{append_cancel_right}
use Rattle.lus_values.specs.Names.{Names, Text}
use Rattle.lus_program.specs.Programs.{Program}
use Rattle.lus_devices.specs.Devices.{Bytes, with_front}
use Rattle.lus_devices.specs.Journals.{reply_text}
use Rattle.lus_asked.specs.Asked.{asked_text}
use Rattle.lus_lines.specs.Lines.{IsLast, IsPlain, IsWholeLine}
use Rattle.lus_replay.specs.Replays.{AsksOnly, BeginsAsked, Said, said_line}
use Rattle.lus_replay.proofs.Follows.{at_end, front_known}
use Rattle.lus_replay.proofs.Splits.{line_feeds, line_some, lines_split}
use Rattle.lus_replay.specs.declared.line.Verdict.TheVariants as verdicts
use Rattle.lus_live_instance.specs.MachineSpecs.Constructors.{names_of}
use Rattle.lus_hosting.specs.Audits.{AsksLogged, FindsLine, IsFound, IsNoneLeft, IsReadableLine, LogEntry, LogLine, LogNote, line_in}
use Rattle.lus_hosting.specs.Hosts.{HasReplayedOn, Keeps}
use Rattle.lus_hosting.specs.Logs.{IsWord, Logged, behind_of, next_of}
use Rattle.lus_hosting.specs.declared.auditing.Found.{Found}
use Rattle.lus_hosting.specs.declared.auditing.Found.TheVariants as founds
use Rattle.lus_hosting.specs.declared.instances.Instances.{Instances}
use Rattle.lus_hosting.specs.declared.words.Behind.TheVariants as behind
use Rattle.lus_hosting.proofs.WordLaws.{entry_note, logged_begins, name_word, words_split}

module _ (p : Program) (f : ℕ) (log : List Logged) (instance entry : Text) (word : IsWord instance) (new : Instances) where
  abbrev names : Names
  names = names_of p

  abbrev line : Text
  line = instance ++ 32 ∷ (entry ++ 10 ∷ [])

  -- what is asked behind the name is asked of its instance
  asks_so : (s : Said) → AsksOnly names (next_of instance log) (entry ++ 10 ∷ []) s.caller s.request
      → AsksLogged names log line (record { instance = instance; said = s })
  asks_so s only m readable begins =
      let parts = words_split instance m.instance (entry ++ 10 ∷ []) begins.0 word (name_word names m readable) begins.1 in
      let there = subst (λ i. BeginsAsked names m.said.caller (next_of i log) m.said.request begins.0) (sym parts.0) begins.2 in
      let one = only m.said.caller m.said.request readable.caller readable.request
      (subst (BeginsAsked names m.said.caller (next_of instance log) m.said.request) (sym parts.1) there) in
      (parts.0, one.0, one.1)

  pub found_right : (right answer : Text) → HasReplayedOn p f log instance (entry ++ 10 ∷ []) answer verdicts.Right new
      → IsFound founds.Right p f log line right new
  found_right right answer has = (
    record { instance = instance; said = has.0 },
    ap (λ t. instance ++ 32 ∷ t) has.1 ∙ sym (append_assoc instance (codes " ") (said_line names (next_of instance log) has.0)),
    word,
    asks_so has.0 has.3,
    has.2,
    has.4,
  )

  pub found_wrong : (right answer : Text) → HasReplayedOn p f log instance (entry ++ 10 ∷ []) answer verdicts.Wrong new → right ≡ instance ++ 32 ∷ answer
      → IsFound founds.Wrong p f log line right new
  found_wrong right answer has is = (
    record { instance = instance; said = has.0 },
    is ∙ ap (λ t. instance ++ 32 ∷ t) has.1 ∙ sym (append_assoc instance (codes " ") (said_line names (next_of instance log) has.0)),
    word,
    (entry ++ 10 ∷ [], refl, has.4),
    asks_so has.0 has.3,
    λ same. has.5 (words_split instance instance (entry ++ 10 ∷ []) answer word word (same ∙ is)).1,
    has.2,
    has.6,
  )

  pub found_none : (right answer : Text) → HasReplayedOn p f log instance (entry ++ 10 ∷ []) answer verdicts.NoEntry new
      → behind_of entry ≡ behind.Entry → IsFound founds.NoLine p f log line right new
  found_none right answer none kind (LogEntry m) readable is =
      let begins = logged_begins names log m in
      let parts = words_split instance m.instance (entry ++ 10 ∷ []) begins.0 word (name_word names m readable.0) (is ∙ begins.1) in
      let there = subst (λ i. BeginsAsked names m.said.caller (next_of i log) m.said.request begins.0) (sym parts.0) begins.2 in
      none m.said.caller m.said.request readable.0.caller readable.0.request
      (subst (BeginsAsked names m.said.caller (next_of instance log) m.said.request) (sym parts.1) there)
  found_none right answer none kind (LogNote t) readable is =
      let note = readable.0 in
      let spelled : instance ++ 32 ∷ (entry ++ 10 ∷ []) ≡ note.instance ++ 32 ∷ (note.rest ++ 10 ∷ []) =
      is ∙ ap (λ x. x ++ 10 ∷ []) note.spelled ∙ append_assoc note.instance (32 ∷ note.rest) (10 ∷ []) in
      let parts = words_split instance note.instance (entry ++ 10 ∷ []) (note.rest ++ 10 ∷ []) word note.word spelled in
      let rest = append_cancel_right entry note.rest (10 ∷ []) parts.1 in
      entry_note (behind_of entry) kind (ap behind_of rest ∙ note.kind)

-- a line of an instance and its entry, before its line feed
pub entry_line : (whole text instance entry : Text) → whole ≡ text ++ 10 ∷ [] → text ≡ instance ++ 32 ∷ entry → instance ++ 32 ∷ (entry ++ 10 ∷ []) ≡ whole
entry_line whole text instance entry feed spelled =
    sym (append_assoc instance (32 ∷ entry) (10 ∷ [])) ∙ ap (λ t. t ++ 10 ∷ []) (sym spelled) ∙ sym feed

-- ---- lines that are none of a log

module _ (names : Names) (log : List Logged) (line : Text) where
  -- what is no text isn't
  pub no_text : (IsUtf8 line → ⊥) → (g : LogLine) → IsReadableLine names log g → line ≡ line_in names log g → ⊥
  no_text none (LogEntry l) readable is = none (subst IsUtf8 (sym is) readable.1)
  no_text none (LogNote t) readable is = none (subst IsUtf8 (sym is) readable.2)

  -- nor what has no line feed at its end
  pub no_feed : ((front : Text) → line ≡ front ++ 10 ∷ [] → ⊥) → (g : LogLine) → IsReadableLine names log g → line ≡ line_in names log g → ⊥
  no_feed none (LogEntry l) readable is =
      let n = next_of l.instance log in
      let front = asked_text names l.said.caller n l.said.request ++ reply_text names l.said.reply in
      none ((l.instance ++ codes " ") ++ front) (is ∙ sym (append_assoc (l.instance ++ codes " ") front (10 ∷ [])))
  no_feed none (LogNote t) readable is = none t is

-- ---- what was read

module _ (p : Program) (f : ℕ) (log : List Logged) (left later : Option Bytes) (line right : Text) (new : Instances) where
  pub line_left : (found : Found) → IsWholeLine line → left ≡ with_front line later → IsFound found p f log line right new
      → FindsLine found p f log left later line right new
  line_left founds.Right whole read is = record { whole = whole; read = read; is = is }
  line_left founds.Noted whole read is = record { whole = whole; read = read; is = is }
  line_left founds.Wrong whole read is = record { whole = whole; read = read; is = is }
  line_left founds.NoLine whole read is = record {
    some = λ none. (let rest = front_known [] line later (sym none ∙ read) in line_some line rest.0 whole (sym rest.2));
    no_line = λ g x readable other spelled.
        (let rest = front_known (line_in (names_of p) log g ++ x) line later (sym spelled ∙ read) in
        let parts = lines_split line (line_in (names_of p) log g) rest.0 x whole other (sym rest.2) in
        is g readable parts.0);
  }
  line_left founds.Cut whole read is = absurd is
  line_left founds.Over whole read is = absurd is

  none_left : IsLast line left later → 0 < length line → IsNoneLeft (names_of p) log left
  none_left last some = record {
    some = λ none.
        (let end = at_end [] line later (sym none ∙ last.read) last.over in
        let empty = ap length end.1 in
        omega (arith, some, empty));
    no_line = λ g x readable whole spelled.
        (let end = at_end (line_in (names_of p) log g ++ x) line later (sym spelled ∙ last.read) last.over in
        line_feeds (line_in (names_of p) log g) x whole (subst IsPlain (sym end.1) last.plain));
  }

  pub tail_left : IsLast line left later → 0 < length line → Keeps p f log new → FindsLine founds.Cut p f log left later line right new
  tail_left last some keeps = (none_left last some, last, some, keeps)
