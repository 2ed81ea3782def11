-- The lines of a log, one behind another.
use Rattle.std.proofs.Common.{◌≡◌, ◌∙◌, ◌+◌, ◌++◌, ◌≤◌, ℕ, suc, Bool, true, false, refl, ap, ap₂, subst, sym, List, [], ◌∷◌, length, map, filter, cond, Option, None, append_assoc, append-nil, length-append, arith}
use Rattle.std.specs.List.{All, AllZip}
use Rattle.std.specs.Str.{bytes_eq}
use Rattle.std.proofs.lemmas.List.{append_cancel_left, append_cancel_right}
use Rattle.std.proofs.lemmas.List.Elements.{All-cons, All-nil}
use Rattle.indexmap.specs.IndexMap.{get_by_text}
use Rattle.lus_values.specs.Names.{Names, Text}
use Rattle.lus_program.specs.Programs.{Program}
use Rattle.lus_requests.specs.declared.request.Entry.{Entry}
use Rattle.lus_requests.specs.declared.request.Reply.{Reply}
use Rattle.lus_requests.specs.declared.request.Request.{Request}
use Rattle.lus_devices.specs.Devices.{Bytes, with_front}
use Rattle.lus_devices.specs.Journals.{reply_text}
use Rattle.lus_devices.proofs.Laws.{with_front-more}
use Rattle.lus_asked.specs.Asked.{asked_text}
use Rattle.lus_lines.specs.Lines.{IsPlain, IsWholeLine}
use Rattle.lus_play.specs.Plays.{ended, entry_of}
use Rattle.lus_live_instance.specs.MachineSpecs.Constructors.{names_of}
use Rattle.lus_replay.specs.Replays.{ArePlain, IsAlike, Said, entry_said, said_line}
use Rattle.lus_replay.proofs.Splits.{line_some, lines_split}
use Rattle.lus_hosting.specs.Audits.{AreReadable, AsksLogged, FindsLine, IsLogLine, IsReadableLine, LogEntry, LogLine, LogNote, entries_in, entry_in, line_in, lines_text, log_behind, log_text}
use Rattle.lus_hosting.specs.Hosts.{Keeps}
use Rattle.lus_hosting.specs.Logs.{Logged, entries_of, is_of, logged_line, next_of}
use Rattle.lus_hosting.specs.declared.auditing.Found.{Found}
use Rattle.lus_hosting.specs.declared.auditing.Found.TheVariants as founds
use Rattle.lus_hosting.specs.declared.instances.Instances.{Instances}
use Rattle.lus_hosting.proofs.HostLaws.{none_kept}
use Rattle.lus_hosting.proofs.TurnLaws.{front_nothing}
use Rattle.lus_hosting.proofs.WordLaws.{line_whole, logged_begins, name_word, note_no_entry}

-- ---- one line more

pub behind_more : (log : List Logged) (is : List LogLine) (i : LogLine) → log_behind log (is ++ i ∷ []) ≡ log_behind log is ++ entry_in i
behind_more log [] i = refl
behind_more log (j ∷ is) i = behind_more (log ++ entry_in j) is i

pub text_more : (names : Names) (log : List Logged) (is : List LogLine) (i : LogLine)
    → lines_text names log (is ++ i ∷ []) ≡ lines_text names log is ++ line_in names (log_behind log is) i
text_more names log [] i = append-nil (line_in names log i)
text_more names log (j ∷ is) i =
    ap (λ t. line_in names log j ++ t) (text_more names (log ++ entry_in j) is i)
    ∙ sym (append_assoc (line_in names log j) (lines_text names (log ++ entry_in j) is) (line_in names (log_behind (log ++ entry_in j) is) i))

pub one_entry : (i : LogLine) → length (entry_in i) ≤ 1
one_entry (LogEntry l) = omega arith
one_entry (LogNote t) = omega arith

-- what is read as an entry asks nothing else
abbrev AsksSo : Names → List Logged → LogLine → Type 0
AsksSo names log (LogEntry l) = AsksLogged names log (logged_line names log l) l
AsksSo names log (LogNote t) = Unit {0}

pub record IsLineRead (names : Names) (log : List Logged) (i : LogLine) : Type 0 where
  pub whole : IsWholeLine (line_in names log i)
  pub is : IsLogLine i
  pub asks : AsksSo names log i

abbrev pub AreRead : Names → List Logged → List LogLine → Type 0
AreRead names log [] = Unit {0}
AreRead names log (i ∷ is) = IsLineRead names log i × AreRead names (log ++ entry_in i) is

pub read_more : (names : Names) (log : List Logged) (is : List LogLine) (i : LogLine) → AreRead names log is → IsLineRead names (log_behind log is) i
    → AreRead names log (is ++ i ∷ [])
read_more names log [] i all one = (one, tt)
read_more names log (j ∷ is) i all one = (all.0, read_more names (log ++ entry_in j) is i all.1 one)

pub read_words : (names : Names) (log : List Logged) (is : List LogLine) → AreRead names log is → All IsLogLine is
read_words names log [] all = All-nil IsLogLine
read_words names log (i ∷ is) all = All-cons IsLogLine i is all.0.is (read_words names (log ++ entry_in i) is all.1)

module _ (p : Program) (f : ℕ) (left : Option Bytes) where
  -- these lines of a log were read so far
  pub record Audited (mid : Option Bytes) (instances : Instances) (turn entries : ℕ) : Type 0 where
    pub lines : List LogLine
    pub told : AreRead (names_of p) [] lines
    pub read : left ≡ with_front (log_text (names_of p) lines) mid
    pub keeps : Keeps p f (entries_in lines) instances
    pub count : turn ≡ length lines
    pub entered : entries ≡ length (entries_in lines)
    pub few : entries ≤ turn

  unfoldable pub audited_start : (instances : Instances) → ((name : Text) → get_by_text instances.by_name name ≡ None) → Audited left instances 0 0
  audited_start instances new = record {
    lines = [];
    told = tt;
    read = front_nothing left;
    keeps = none_kept p f (get_by_text instances.by_name) new;
    count = refl;
    entered = refl;
    few = omega arith;
  }

  module _ (mid : Option Bytes) (instances : Instances) (turn entries : ℕ) (audited : Audited mid instances turn entries) where
    -- one more line is read
    unfoldable pub with_line : (i : LogLine) (later : Option Bytes) (new : Instances) (more : ℕ) → IsLineRead (names_of p) (entries_in audited.lines) i
        → mid ≡ with_front (line_in (names_of p) (entries_in audited.lines) i) later → Keeps p f (entries_in audited.lines ++ entry_in i) new
        → more ≡ entries + length (entry_in i) → Audited later new (turn + 1) more
    with_line i later new more one read keeps counted =
        let count = audited.count in
        let entered = audited.entered in
        let long = length-append audited.lines (i ∷ []) in
        let behind = behind_more [] audited.lines i in
        let all = length-append (entries_in audited.lines) (entry_in i) in
        let same = ap length behind in
        let few = audited.few in
        let one_more = one_entry i in
        record {
          lines = audited.lines ++ i ∷ [];
          told = read_more (names_of p) [] audited.lines i audited.told one;
          read = audited.read ∙ ap (with_front (log_text (names_of p) audited.lines)) read
              ∙ with_front-more later (log_text (names_of p) audited.lines) (line_in (names_of p) (entries_in audited.lines) i)
              ∙ ap (λ t. with_front t later) (sym (text_more (names_of p) [] audited.lines i));
          keeps = subst (λ log. Keeps p f log new) (sym behind) keeps;
          count = omega (arith, count, long);
          entered = omega (arith, counted, entered, all, same);
          few = omega (arith, few, counted, one_more);
        }

    module _ (kind : Found) (later : Option Bytes) (line right : Text) (new : Instances)
        (finds : FindsLine kind p f (entries_in audited.lines) mid later line right new) where
      pub finds_as : (other : Found) → kind ≡ other → FindsLine other p f (entries_in audited.lines) mid later line right new
      finds_as other is = subst (λ k. FindsLine k p f (entries_in audited.lines) mid later line right new) is finds

    -- its line is an entry's
    unfoldable pub audited_right : (kind : Found) (later : Option Bytes) (line right : Text) (new : Instances)
        → FindsLine kind p f (entries_in audited.lines) mid later line right new → kind ≡ founds.Right → (more : ℕ) → more ≡ entries + 1
        → Audited later new (turn + 1) more
    audited_right kind later line right new finds kind_is more counted =
        let left = finds_as kind later line right new finds founds.Right kind_is in
        let found = left.is in
        with_line (LogEntry found.0) later new more
        (record {
          whole = subst IsWholeLine found.1 left.whole;
          is = found.2;
          asks = subst (λ t. AsksLogged (names_of p) (entries_in audited.lines) t found.0) found.1 found.3;
        })
        (left.read ∙ ap (λ t. with_front t later) found.1) found.4 counted

    -- or a note
    unfoldable pub audited_noted : (kind : Found) (later : Option Bytes) (line right : Text) (new : Instances)
        → FindsLine kind p f (entries_in audited.lines) mid later line right new → kind ≡ founds.Noted → (more : ℕ) → more ≡ entries
        → Audited later new (turn + 1) more
    audited_noted kind later line right new finds kind_is more counted =
        let left = finds_as kind later line right new finds founds.Noted kind_is in
        let found = left.is in
        let note : found.0 ≡ left.whole.bytes = append_cancel_right found.0 left.whole.bytes (10 ∷ []) (sym found.1 ∙ left.whole.ended) in
        with_line (LogNote found.0) later new more
        (record {
          whole = subst IsWholeLine found.1 left.whole;
          is = (found.2, subst IsPlain (sym note) left.whole.plain);
          asks = tt;
        })
        (left.read ∙ ap (λ t. with_front t later) found.1)
        (subst (λ log. Keeps p f log new) (sym (append-nil (entries_in audited.lines))) found.3) (omega (arith, counted))

-- ---- logs that are alike

-- but perhaps for replies that are spelled alike
pub record AlikeLogged (names : Names) (l m : Logged) : Type 0 where
  pub instance : l.instance ≡ m.instance
  pub said : IsAlike names (entry_said l.said) m.said

abbrev pub AlikeLogs : Names → List Logged → List Logged → Type 0
AlikeLogs names xs bs = AllZip (AlikeLogged names) xs bs

zip_append : (names : Names) (xs bs cs ds : List Logged) → AlikeLogs names xs bs → AlikeLogs names cs ds → AlikeLogs names (xs ++ cs) (bs ++ ds)
zip_append names [] [] cs ds one other = other
zip_append names [] (b ∷ bs) cs ds one other = absurd one
zip_append names (a ∷ xs) [] cs ds one other = absurd one
zip_append names (a ∷ xs) (b ∷ bs) cs ds one other = (one.0, zip_append names xs bs cs ds one.1 other)

-- what was said by the callers of an instance
abbrev pub saids_of : Text → List Logged → List Said
saids_of name log = map (λ l. l.said) (filter (is_of name) log)

pub alike_own : (names : Names) (name : Text) (xs bs : List Logged) → AlikeLogs names xs bs → AllZip (IsAlike names) (entries_of name xs) (saids_of name bs)
alike_own names name [] [] alike = tt
alike_own names name [] (b ∷ bs) alike = absurd alike
alike_own names name (a ∷ xs) [] alike = absurd alike
alike_own names name (a ∷ xs) (b ∷ bs) alike =
    go (is_of name a) (is_of name b) (ap (bytes_eq name) alike.0.instance) (filter (is_of name) xs) (filter (is_of name) bs)
    (alike_own names name xs bs alike.1)
  where
    go : (x y : Bool) → x ≡ y → (cs ds : List Logged) → AllZip (IsAlike names) (map (λ l. entry_said l.said) cs) (map (λ l. l.said) ds)
        → AllZip (IsAlike names) (map (λ l. entry_said l.said) (cond x (a ∷ cs) cs)) (map (λ l. l.said) (cond y (b ∷ ds) ds))
    go true true same cs ds rest = (alike.0.said, rest)
    go true false same cs ds rest = absurd (cc)
    go false true same cs ds rest = absurd (cc)
    go false false same cs ds rest = rest

saids_count : (name : Text) (log : List Logged) → length (saids_of name log) ≡ length (entries_of name log)
saids_count name log = go (filter (is_of name) log)
  where
    go : (ls : List Logged) → length (map (λ l. l.said) ls) ≡ length (map (λ l. entry_said l.said) ls)
    go [] = refl
    go (l ∷ ls) = ap suc (go ls)

zip_length : (names : Names) (es : List Entry) (ss : List Said) → AllZip (IsAlike names) es ss → length es ≡ length ss
zip_length names [] [] alike = refl
zip_length names [] (s ∷ ss) alike = absurd alike
zip_length names (e ∷ es) [] alike = absurd alike
zip_length names (e ∷ es) (s ∷ ss) alike = ap suc (zip_length names es ss alike.1)

-- their next entries have the same numbers
pub alike_next : (names : Names) (name : Text) (xs bs : List Logged) → AlikeLogs names xs bs → next_of name xs ≡ next_of name bs
alike_next names name xs bs alike =
    ap (λ n. n + 1) (zip_length names (entries_of name xs) (saids_of name bs) (alike_own names name xs bs alike) ∙ saids_count name bs)

pub alike_line : (names : Names) (xs bs : List Logged) → AlikeLogs names xs bs → (g : LogLine) → line_in names xs g ≡ line_in names bs g
alike_line names xs bs alike (LogEntry l) = ap (λ n. (l.instance ++ 32 ∷ []) ++ said_line names n l.said) (alike_next names l.instance xs bs alike)
alike_line names xs bs alike (LogNote t) = refl

-- ---- lines that were read are those that can be read back

-- a line with other names that are the same
renamed : (names : Names) (xs : List Logged) (a b c d : Text) (q r : Request) (x : Reply) → a ≡ b → c ≡ d → q ≡ r
    → (a ++ 32 ∷ []) ++ ((asked_text names c (next_of a xs) q ++ reply_text names x) ++ 10 ∷ [])
    ≡ (b ++ 32 ∷ []) ++ ((asked_text names d (next_of b xs) r ++ reply_text names x) ++ 10 ∷ [])
renamed names xs a b c d q r x one other asks =
    ap (λ i. (i ++ 32 ∷ []) ++ ((asked_text names c (next_of i xs) q ++ reply_text names x) ++ 10 ∷ [])) one
    ∙ ap₂ (λ e s. (b ++ 32 ∷ []) ++ ((asked_text names e (next_of b xs) s ++ reply_text names x) ++ 10 ∷ [])) other asks

-- two lines that are the same have entries alike
same_line : (names : Names) (xs bs : List Logged) → AlikeLogs names xs bs → (i g : LogLine) → IsLineRead names xs i → IsReadableLine names bs g
    → line_in names xs i ≡ line_in names xs g → AlikeLogs names (entry_in i) (entry_in g)
same_line names xs bs alike (LogEntry l) (LogEntry m) read readable same =
    let begins = logged_begins names xs m in
    let one = read.asks m readable.0 (begins.0, same ∙ begins.1, begins.2) in
    let n = next_of m.instance xs in
    let front = asked_text names m.said.caller n m.said.request in
    let spelled : (m.instance ++ 32 ∷ []) ++ ((front ++ reply_text names l.said.reply) ++ 10 ∷ [])
    ≡ (m.instance ++ 32 ∷ []) ++ ((front ++ reply_text names m.said.reply) ++ 10 ∷ []) =
    sym (renamed names xs l.instance m.instance l.said.caller m.said.caller l.said.request m.said.request l.said.reply one.0 one.1 one.2) ∙ same in
    let lines = append_cancel_left (m.instance ++ 32 ∷ []) ((front ++ reply_text names l.said.reply) ++ 10 ∷ [])
    ((front ++ reply_text names m.said.reply) ++ 10 ∷ []) spelled in
    let texts = append_cancel_right (front ++ reply_text names l.said.reply) (front ++ reply_text names m.said.reply) (10 ∷ []) lines in
    let replies = append_cancel_left front (reply_text names l.said.reply) (reply_text names m.said.reply) texts in
    (record { instance = one.0; said = record { asked = ap (λ q. entry_of q l.said.reply) one.2; told = replies } }, tt)
same_line names xs bs alike (LogEntry l) (LogNote t) read readable same =
    absurd (note_no_entry names xs l t (logged_line names xs l) read.is readable.0 same (logged_begins names xs l))
same_line names xs bs alike (LogNote t) (LogEntry m) read readable same =
    absurd (note_no_entry names xs m t (ended t) (name_word names m readable.0) read.is.0 refl
    (let begins = logged_begins names xs m in (begins.0, same ∙ begins.1, begins.2)))
same_line names xs bs alike (LogNote t) (LogNote u) read readable same = tt

-- the lines that were read are the first of these, and this is left
pub record IsFront (names : Names) (xs bs : List Logged) (is gs : List LogLine) (left : Text) : Type 0 where
  pub front : List LogLine
  pub more : List LogLine
  pub lines_are : gs ≡ front ++ more
  pub count : length is ≡ length front
  pub alike : AlikeLogs names (log_behind xs is) (log_behind bs front)
  pub left_is : left ≡ lines_text names (log_behind bs front) more
  pub readable : AreReadable names (log_behind bs front) more

module _ (names : Names) (plain : ArePlain names) where
  pub reads : (xs bs : List Logged) → AlikeLogs names xs bs → (is gs : List LogLine) (left : Text) → AreRead names xs is → AreReadable names bs gs
      → lines_text names xs is ++ left ≡ lines_text names bs gs → IsFront names xs bs is gs left
  reads xs bs alike [] gs left read readable same =
      record { front = []; more = gs; lines_are = refl; count = refl; alike = alike; left_is = same; readable = readable }
  reads xs bs alike (i ∷ is) [] left read readable same =
      absurd (line_some (line_in names xs i) (lines_text names (xs ++ entry_in i) is ++ left) read.0.whole
      (sym (append_assoc (line_in names xs i) (lines_text names (xs ++ entry_in i) is) left) ∙ same))
  reads xs bs alike (i ∷ is) (g ∷ gs) left read readable same =
      let x = lines_text names (xs ++ entry_in i) is in
      let y = lines_text names (bs ++ entry_in g) gs in
      let parts = lines_split (line_in names xs i) (line_in names bs g) (x ++ left) y read.0.whole (line_whole names plain bs g readable.0)
      (sym (append_assoc (line_in names xs i) x left) ∙ same) in
      let one = same_line names xs bs alike i g read.0 readable.0 (parts.0 ∙ sym (alike_line names xs bs alike g)) in
      let rest = reads (xs ++ entry_in i) (bs ++ entry_in g) (zip_append names xs bs (entry_in i) (entry_in g) alike one) is gs left read.1 readable.1 parts.1 in
      record {
        front = g ∷ rest.front;
        more = rest.more;
        lines_are = ap (λ ls. g ∷ ls) rest.lines_are;
        count = ap suc rest.count;
        alike = rest.alike;
        left_is = rest.left_is;
        readable = rest.readable;
      }
