-- What is found of a log that can be read back.
use Rattle.std.proofs.Common.{◌≡◌, ◌≢◌, ◌∙◌, ◌+◌, ◌++◌, inl, inr, ℕ, Bool, true, false, refl, ap, ap₂, sym, subst, List, [], ◌∷◌, length, map, filter, cond, Option, Some, append_assoc, append-nil, codes, IsUtf8}
use Rattle.std.specs.Fmt.{decimal}
use Rattle.std.specs.List.{AllZip}
use Rattle.std.proofs.lemmas.List.Elements.{length_all_zip}
use Rattle.std.proofs.lemmas.Slice.Eq.{bytes_eq-Decides}
use Rattle.lus_values.specs.Names.{Names, Text}
use Rattle.lus_program.specs.Programs.{Program}
use Rattle.lus_requests.specs.declared.request.Reply.{Reply}
use Rattle.lus_devices.specs.Devices.{Bytes, with_front}
use Rattle.lus_devices.proofs.Laws.{with_front-more}
use Rattle.lus_asked.specs.Asked.{asked_text}
use Rattle.lus_lines.specs.Lines.{IsLast, IsWholeLine}
use Rattle.lus_play.specs.Plays.{ended, entry_of}
use Rattle.lus_replay.specs.Replays.{ArePlain, IsAlike, entry_said}
use Rattle.lus_replay.proofs.Follows.{at_end, front_known}
use Rattle.lus_replay.proofs.Splits.{line_some, lines_split}
use Rattle.lus_lawful.proofs.Places.{places}
use Rattle.lus_lawful.proofs.Replies.{AllRight, IsAsked, all_right, asked_alike, last_same, right_before, told_right}
use Rattle.lus_lawful.proofs.Words.{names_plain}
use Rattle.lus_live_instance.specs.MachineSpecs.Acceptance.{IsAccepted}
use Rattle.lus_live_instance.specs.MachineSpecs.Constructors.{names_of}
use Rattle.lus_live_instance.specs.MachineSpecs.HistorySpecs.Pasts.{beginning}
use Rattle.indexmap.specs.IndexMap.{get_by_text}
use Rattle.lus_hosting.specs.Audits.{AreLawful, AreReadable, AsksLogged, BeginsLogged, FindsInLog, FindsLine, HasAuditedLog, IsLineLeft, IsNoLog, IsNoneLeft, IsReadableLine, IsToFind, IsWrongLog, LogEntry, LogLine, LogNote, SeesMore, answered, entries_in, entry_in, lawful_log_text, line_in, lines_text, log_behind, log_text, wrong_log_text}
use Rattle.lus_hosting.specs.Hosts.{logged}
use Rattle.lus_hosting.specs.Logs.{IsWord, Logged, entries_of, is_of, logged_line, next_of}
use Rattle.lus_hosting.specs.declared.auditing.Found.{Found}
use Rattle.lus_hosting.specs.declared.auditing.Found.TheVariants as founds
use Rattle.lus_hosting.specs.declared.instances.Instances.{Instances}
use Rattle.lus_hosting.proofs.AuditLaws.{AlikeLogged, AlikeLogs, Audited, IsFront, alike_line, alike_own, finds_as, read_words, reads, saids_of}
use Rattle.lus_hosting.proofs.HostLaws.{all_lawful, entries_own}
use Rattle.lus_hosting.proofs.WordLaws.{line_whole, logged_begins, note_no_entry}

-- ---- logs

behind_append : (log : List Logged) (is : List LogLine) → log_behind log is ≡ log ++ entries_in is
behind_append log [] = sym (append-nil log)
behind_append log (i ∷ is) =
    behind_append (log ++ entry_in i) is ∙ append_assoc log (entry_in i) (entries_in is) ∙ ap (λ ls. log ++ ls) (sym (behind_append (entry_in i) is))

-- the entries before an entry, it, and those behind it
behind_split : (log : List Logged) (before : List LogLine) (l : Logged) (behind : List LogLine)
    → log_behind log (before ++ LogEntry l ∷ behind) ≡ log_behind log before ++ l ∷ entries_in behind
behind_split log [] l behind = behind_append (log ++ l ∷ []) behind ∙ append_assoc log (l ∷ []) (entries_in behind)
behind_split log (j ∷ before) l behind = behind_split (log ++ entry_in j) before l behind

alike_refl : (names : Names) (ls : List Logged) → AlikeLogs names ls ls
alike_refl names [] = tt
alike_refl names (l ∷ ls) = (record { instance = refl; said = record { asked = refl; told = refl } }, alike_refl names ls)

-- what is said in a log before an entry of an instance, in it, and behind it
saids_split : (before : List Logged) (l : Logged) (rest : List Logged)
    → saids_of l.instance (before ++ l ∷ rest) ≡ saids_of l.instance before ++ l.said ∷ saids_of l.instance rest
saids_split [] l rest = ap (λ b. map (λ (k : Logged). k.said) (cond b (l ∷ filter (is_of l.instance) rest) (filter (is_of l.instance) rest)))
    ((bytes_eq-Decides l.instance l.instance).1 refl)
saids_split (k ∷ before) l rest =
    go (is_of l.instance k) (filter (is_of l.instance) (before ++ l ∷ rest)) (filter (is_of l.instance) before) (saids_split before l rest)
  where
    go : (b : Bool) (xs ys : List Logged) → map (λ (d : Logged). d.said) xs ≡ map (λ (d : Logged). d.said) ys ++ l.said ∷ saids_of l.instance rest
        → map (λ (d : Logged). d.said) (cond b (k ∷ xs) xs)
        ≡ map (λ (d : Logged). d.said) (cond b (k ∷ ys) ys) ++ l.said ∷ saids_of l.instance rest
    go true xs ys same = ap (λ ss. k.said ∷ ss) same
    go false xs ys same = same

entries_append : (name : Text) (xs bs : List Logged) → entries_of name (xs ++ bs) ≡ entries_of name xs ++ entries_of name bs
entries_append name [] bs = refl
entries_append name (a ∷ xs) bs = go (is_of name a) (filter (is_of name) (xs ++ bs)) (filter (is_of name) xs) (entries_append name xs bs)
  where
    go : (b : Bool) (xs ys : List Logged) → map (λ (d : Logged). entry_said d.said) xs ≡ map (λ (d : Logged). entry_said d.said) ys ++ entries_of name bs
        → map (λ (d : Logged). entry_said d.said) (cond b (a ∷ xs) xs)
        ≡ map (λ (d : Logged). entry_said d.said) (cond b (a ∷ ys) ys) ++ entries_of name bs
    go true xs ys same = ap (λ es. entry_said a.said ∷ es) same
    go false xs ys same = same

-- an entry with its own names is one with another's that are the same
renamed : (l m : Logged) → l.instance ≡ m.instance → l.said.caller ≡ m.said.caller → l.said.request ≡ m.said.request → l ≡ answered m l.said.reply
renamed l m one other asks =
    ap (λ i. logged i l.said.caller l.said.request l.said.reply) one ∙ ap₂ (λ c r. logged m.instance c r l.said.reply) other asks

module _ (p : Program) (accepted : IsAccepted p) (f : ℕ) where
  abbrev names : Names
  names = names_of p

  -- an entry behind a log has a reply that is spelled as no right one, by what a log says that asks alike
  record Differs (before : List Logged) (l : Logged) (xs : List Logged) (a : Reply) : Type 0 where
    asked : AllZip IsAsked (entries_of l.instance xs) (saids_of l.instance before)
    right : AllRight p f beginning (entries_of l.instance xs ++ entry_of l.said.request a ∷ [])
    differs : logged_line names before l ≢ logged_line names before (answered l a)

  rights : (log : List Logged) → AreLawful p f log → (name : Text) → AllRight p f beginning (entries_of name log)
  rights log lawful name = all_right p f (entries_of name log) (lawful name)

  -- those before others, too
  rights_before : (xs bs : List Logged) → AreLawful p f (xs ++ bs) → (name : Text) → AllRight p f beginning (entries_of name xs)
  rights_before xs bs lawful name =
      right_before p f beginning (entries_of name xs) (entries_of name bs)
      (subst (AllRight p f beginning) (entries_append name xs bs) (rights (xs ++ bs) lawful name))

  -- is none of a log whose entries are right
  none_among : (before : List Logged) (l : Logged) (xs : List Logged) (a : Reply) → Differs before l xs a → (rest ds : List Logged)
      → AlikeLogs names ds (before ++ l ∷ rest) → AllRight p f beginning (entries_of l.instance ds) → ⊥
  none_among before l xs a here rest ds alike right =
      let told = told_right p accepted f names beginning (saids_of l.instance before) l.said (saids_of l.instance rest) (entries_of l.instance ds)
      (entries_of l.instance xs) a
      (subst (AllZip (IsAlike names) (entries_of l.instance ds)) (saids_split before l rest) (alike_own names l.instance ds (before ++ l ∷ rest) alike))
      here.asked right here.right in
      let n = next_of l.instance before in
      here.differs
      (ap (λ t. (l.instance ++ 32 ∷ []) ++ ((asked_text names l.said.caller n l.said.request ++ t) ++ codes "\n")) (sym told))

  wrong_differs : (lines : List LogLine) (report : Text) (w : IsWrongLog p f report lines) → Differs (entries_in w.before) w.written (entries_in w.before) w.right
  wrong_differs lines report w =
      let name = w.written.instance in
      let log = entries_in w.before in
      record {
        asked = asked_own name log;
        right = subst (AllRight p f beginning) (entries_own name log (answered w.written w.right).said)
            (rights (log ++ answered w.written w.right ∷ []) w.lawful name);
        differs = w.differs;
      }
    where
      asked_own : (name : Text) (log : List Logged) → AllZip IsAsked (entries_of name log) (saids_of name log)
      asked_own name log = asked_alike names (entries_of name log) (saids_of name log) (alike_own names name log log (alike_refl names log))

  -- ---- behind lines that were read

  module _ (is gs : List LogLine) (left : Text) (fr : IsFront names [] [] is gs left) (lawful : AreLawful p f (entries_in is)) where
    abbrev xs : List Logged
    xs = entries_in is

    abbrev bs : List Logged
    bs = entries_in fr.front

    plain : ArePlain names
    plain = names_plain p accepted

    -- an entry before all others is none of those that were read
    none_read : (report : Text) (w : IsWrongLog p f report gs) (mid : List LogLine) → fr.front ≡ w.before ++ LogEntry w.written ∷ mid → ⊥
    none_read report w mid is_so =
        none_among (entries_in w.before) w.written (entries_in w.before) w.right (wrong_differs gs report w) (entries_in mid) xs
        (subst (AlikeLogs names xs) (ap entries_in is_so ∙ behind_split [] w.before w.written mid) fr.alike)
        (rights xs lawful w.written.instance)

    nothing_more : left ≡ [] → fr.more ≡ []
    nothing_more none = go fr.more fr.readable (sym none ∙ fr.left_is)
      where
        go : (ls : List LogLine) → AreReadable names bs ls → [] ≡ lines_text names bs ls → ls ≡ []
        go [] readable same = refl
        go (g ∷ ls) readable same =
            absurd (line_some (line_in names bs g) (lines_text names (bs ++ entry_in g) ls) (line_whole names plain bs g readable.0) (sym same))

    -- nothing is behind them
    pub finds_lawful : left ≡ [] → (report : Text) → report ≡ lawful_log_text xs → (all : Bool) (text : Text) → IsToFind p f gs all text
        → (true ≡ all) × (report ≡ text)
    finds_lawful none report reported =
        let here : gs ≡ fr.front = fr.lines_are ∙ ap (λ ls. fr.front ++ ls) (nothing_more none) ∙ append-nil fr.front in
        go here
      where
        go : gs ≡ fr.front → (all : Bool) (text : Text) → IsToFind p f gs all text → (true ≡ all) × (report ≡ text)
        go here true text find = (
          refl,
          reported
              ∙ ap (λ n. codes "entries " ++ decimal n ++ codes " lawful\n") (length_all_zip (AlikeLogged names) xs bs fr.alike ∙ ap (λ ls. length (entries_in ls)) (sym here))
              ∙ sym find.1,
        )
        go here false text w = absurd (none_read text w w.behind (sym here ∙ w.lines_are))

    -- no line is behind them
    pub none_here : IsNoneLeft names xs (Some left) → ⊥
    none_here none = go fr.more fr.readable fr.left_is
      where
        readable_there : (g : LogLine) → IsReadableLine names bs g → IsReadableLine names xs g
        readable_there (LogEntry l) readable = (readable.0, subst IsUtf8 (sym (alike_line names xs bs fr.alike (LogEntry l))) readable.1)
        readable_there (LogNote t) readable = readable

        go : (ls : List LogLine) → AreReadable names bs ls → left ≡ lines_text names bs ls → ⊥
        go [] readable same = none.some (ap Some same)
        go (g ∷ ls) readable same =
            let rest = lines_text names (bs ++ entry_in g) ls in
            let there = readable_there g readable.0 in
            none.no_line g rest there (line_whole names plain xs g there)
            (ap Some (same ∙ ap (λ t. t ++ rest) (sym (alike_line names xs bs fr.alike g))))

    -- a line with another reply than the right one is behind them
    module _ (line later : Text) (w : Logged) (whole : IsWholeLine line) (word : IsWord w.instance) (begins : BeginsLogged names xs line w)
        (asks : AsksLogged names xs line w) (differs : line ≢ logged_line names xs w) (more_lawful : AreLawful p f (xs ++ w ∷ []))
        (left_so : left ≡ line ++ later) where
      -- which is that of an entry
      record IsThere (m : Logged) (ls : List LogLine) : Type 0 where
        spelled : line ≡ logged_line names bs m
        same : w ≡ answered m w.said.reply
        lines_so : gs ≡ fr.front ++ LogEntry m ∷ ls
        here : Differs bs m xs w.said.reply

      there_so : (m : Logged) (ls : List LogLine) → fr.more ≡ LogEntry m ∷ ls → IsReadableLine names bs (LogEntry m) → line ≡ logged_line names bs m → IsThere m ls
      there_so m ls more_is readable spelled =
          let numbered = alike_line names xs bs fr.alike (LogEntry m) in
          let begun = logged_begins names xs m in
          let one = asks m readable.0 (begun.0, spelled ∙ sym numbered ∙ begun.1, begun.2) in
          let a = w.said.reply in
          let same = renamed w m one.0 one.1 one.2 in
          let answer = alike_line names xs bs fr.alike (LogEntry (answered m a)) in
          record {
            spelled = spelled;
            same = same;
            lines_so = fr.lines_are ∙ ap (λ ks. fr.front ++ ks) more_is;
            here = record {
              asked = asked_alike names (entries_of m.instance xs) (saids_of m.instance bs) (alike_own names m.instance xs bs fr.alike);
              right = subst (AllRight p f beginning) (entries_own m.instance xs (answered m a).said)
                  (rights (xs ++ answered m a ∷ []) (subst (λ l. AreLawful p f (xs ++ l ∷ [])) same more_lawful) m.instance);
              differs = λ alike. differs (spelled ∙ alike ∙ sym answer ∙ ap (logged_line names xs) (sym same));
            };
          }

      there : (ls : List LogLine) → fr.more ≡ ls → AreReadable names bs ls → left ≡ lines_text names bs ls
          → (m : Logged) × (rest : List LogLine) × IsThere m rest
      there [] more_is readable same = absurd (line_some line later whole (sym left_so ∙ same))
      there (LogNote t ∷ ls) more_is readable same =
          let parts = lines_split line (ended t) later (lines_text names bs ls) whole (line_whole names plain bs (LogNote t) readable.0)
          (sym left_so ∙ same ∙ ap (λ log. ended t ++ lines_text names log ls) (append-nil bs)) in
          absurd (note_no_entry names xs w t line word readable.0.0 parts.0 begins)
      there (LogEntry m ∷ ls) more_is readable same =
          let parts = lines_split line (logged_line names bs m) later (lines_text names (bs ++ m ∷ []) ls) whole
          (line_whole names plain bs (LogEntry m) readable.0) (sym left_so ∙ same) in
          (m, ls, there_so m ls more_is readable.0 parts.0)

      pub finds_wrong : (report : Text) → report ≡ wrong_log_text (length is + 1) line (logged_line names xs w) → (all : Bool) (text : Text)
          → IsToFind p f gs all text → (false ≡ all) × (report ≡ text)
      finds_wrong report reported = let found = there fr.more refl fr.readable fr.left_is in go found.0 found.1 found.2
        where
          go : (m : Logged) (ls : List LogLine) → IsThere m ls → (all : Bool) (text : Text) → IsToFind p f gs all text → (false ≡ all) × (report ≡ text)
          go m ls t true text find =
              let log = ap entries_in t.lines_so ∙ behind_split [] fr.front m ls in
              absurd (none_among bs m xs w.said.reply t.here (entries_in ls) (entries_in gs)
              (subst (AlikeLogs names (entries_in gs)) log (alike_refl names (entries_in gs))) (rights (entries_in gs) find.0 m.instance))
          go m ls t false text v =
              elim (places fr.front v.before ls v.behind (LogEntry m) (LogEntry v.written) (sym t.lines_so ∙ v.lines_are)) [
                | inl place ↦
                    (let entry : LogEntry m ≡ LogEntry v.written = place.1 in
                    let written : m ≡ v.written = cc in
                    let there = wrong_differs gs text v in
                    let other : Differs bs m bs v.right =
                    subst (λ b. Differs (entries_in b) m (entries_in b) v.right) (sym place.0)
                    (subst (λ l. Differs (entries_in v.before) l (entries_in v.before) v.right) (sym written) there) in
                    let reply : w.said.reply ≡ v.right =
                    last_same p accepted f beginning (saids_of m.instance bs) m.said (entries_of m.instance xs) (entries_of m.instance bs) w.said.reply v.right
                    t.here.asked other.asked t.here.right other.right in
                    let number : length is + 1 ≡ length v.before + 1 = ap (λ n. n + 1) (fr.count ∙ ap length place.0) in
                    let line_so : line ≡ logged_line names (entries_in v.before) v.written =
                    t.spelled ∙ ap₂ (λ b l. logged_line names (entries_in b) l) place.0 written in
                    let right_so : logged_line names xs w ≡ logged_line names (entries_in v.before) (answered v.written v.right) =
                    ap (logged_line names xs) t.same ∙ alike_line names xs bs fr.alike (LogEntry (answered m w.said.reply))
                    ∙ ap₂ (λ b l. logged_line names (entries_in b) l) place.0 (ap₂ answered written reply) in (
                      refl,
                      reported ∙ ap (λ n. wrong_log_text n line (logged_line names xs w)) number
                          ∙ ap₂ (λ x y. wrong_log_text (length v.before + 1) x y) line_so right_so ∙ sym v.reported,
                    ))
                | inr (inl later) ↦
                    (let log = ap entries_in later.1 ∙ behind_split [] fr.front m later.0 in
                    absurd (none_among bs m xs w.said.reply t.here (entries_in later.0) (entries_in v.before)
                    (subst (AlikeLogs names (entries_in v.before)) log (alike_refl names (entries_in v.before)))
                    (rights_before (entries_in v.before) (answered v.written v.right ∷ []) v.lawful m.instance)))
                | inr (inr earlier) ↦ absurd (none_read text v earlier.0 earlier.1)
              ]

-- ---- what an audit comes to

module _ (p : Program) (accepted : IsAccepted p) (f : ℕ) (begun : Option Bytes) (mid : Option Bytes) (instances : Instances) (turn entries : ℕ)
    (audited : Audited p f begun mid instances turn entries) where
  abbrev lines : List LogLine
  lines = audited.lines

  lawful : AreLawful p f (entries_in lines)
  lawful = all_lawful p f (entries_in lines) (get_by_text instances.by_name) audited.keeps

  -- what is left of a log that can be read back
  module _ (gs : List LogLine) (readable : AreReadable (names_of p) [] gs) (spelled : begun ≡ Some (log_text (names_of p) gs)) where
    left_is : (x : Text) × (mid ≡ Some x) × (log_text (names_of p) gs ≡ log_text (names_of p) lines ++ x)
    left_is = front_known (log_text (names_of p) gs) (log_text (names_of p) lines) mid (sym spelled ∙ audited.read)

    front_is : IsFront (names_of p) [] [] lines gs left_is.0
    front_is = reads (names_of p) (names_plain p accepted) [] [] tt lines gs left_is.0 audited.told readable (sym left_is.2)

  -- the end is behind the lines that were read, which were seen
  pub audited_all : (Seen : List LogLine → Type 0) → Seen lines → (kind : Found) (later : Option Bytes) (line right : Text) (new : Instances)
      → FindsLine kind p f (entries_in lines) mid later line right new → kind ≡ founds.Over → (report : Text) → report ≡ codes "entries " ++ decimal entries ++ codes " lawful\n"
      → HasAuditedLog p f Seen true begun report × FindsInLog p f true begun report
  audited_all Seen seen kind later line right new finds kind_is report is =
      let found = finds_as p f begun mid instances turn entries audited kind later line right new finds founds.Over kind_is in
      let last : IsLast [] mid later = found.0 in
      let reported : report ≡ lawful_log_text (entries_in lines) = is ∙ ap (λ n. codes "entries " ++ decimal n ++ codes " lawful\n") audited.entered in (
        record {
          lines = lines;
          end = later;
          words = read_words (names_of p) [] lines audited.told;
          read = audited.read ∙ ap (with_front (log_text (names_of p) lines)) last.read ∙ with_front-more later (log_text (names_of p) lines) []
              ∙ ap (λ t. with_front t later) (append-nil (log_text (names_of p) lines));
          over = last.over;
          lawful = lawful;
          seen = seen;
          reported = reported;
        },
        λ gs readable spelled.
            (let x = left_is gs readable spelled in
            let end = at_end x.0 [] later (sym x.1 ∙ last.read) last.over in
            finds_lawful p accepted f lines gs x.0 (front_is gs readable spelled) lawful end.1 report reported),
      )

  -- a line with a wrong reply is, in whose place the right entry was seen
  pub audited_wrong : (Seen : List LogLine → Type 0) (kind : Found) (later : Option Bytes) (line right : Text) (new : Instances)
      → FindsLine kind p f (entries_in lines) mid later line right new → kind ≡ founds.Wrong → SeesMore founds.Wrong new.last Seen lines
      → (report : Text) → report ≡ wrong_log_text (turn + 1) line right
      → HasAuditedLog p f Seen false begun report × FindsInLog p f false begun report
  audited_wrong Seen kind later line right new finds kind_is sees report is =
      let left : IsLineLeft founds.Wrong p f (entries_in lines) mid later line right new =
      finds_as p f begun mid instances turn entries audited kind later line right new finds founds.Wrong kind_is in
      let found = left.is in
      let w = found.0 in
      let more = all_lawful p f (entries_in lines ++ w ∷ []) (get_by_text new.by_name) found.6 in
      let differs : line ≢ logged_line (names_of p) (entries_in lines) w = λ same. found.5 (same ∙ sym found.1) in
      let reported : report ≡ wrong_log_text (length lines + 1) line (logged_line (names_of p) (entries_in lines) w) =
      is ∙ ap₂ (λ n t. wrong_log_text (n + 1) line t) audited.count found.1 in (
        record {
          before = lines;
          line = line;
          right = w;
          later = later;
          words = read_words (names_of p) [] lines audited.told;
          read = audited.read ∙ ap (with_front (log_text (names_of p) lines)) left.read ∙ with_front-more later (log_text (names_of p) lines) line;
          asked = found.3;
          lawful = more;
          differs = differs;
          seen = sees w found.7;
          reported = reported;
        },
        λ gs readable spelled.
            (let x = left_is gs readable spelled in
            let rest = front_known x.0 line later (sym x.1 ∙ left.read) in
            finds_wrong p accepted f lines gs x.0 (front_is gs readable spelled) lawful line rest.0 w left.whole found.2 found.3 found.4 differs more rest.2
            report reported),
      )

  -- no line is
  none_found : IsNoneLeft (names_of p) (entries_in lines) mid → IsNoLog p begun
  none_found none gs readable spelled =
      let x = left_is gs readable spelled in
      none_here p accepted f lines gs x.0 (front_is gs readable spelled) lawful (subst (IsNoneLeft (names_of p) (entries_in lines)) x.1 none)

  pub audited_none : (kind : Found) (later : Option Bytes) (line right : Text) (new : Instances)
      → FindsLine kind p f (entries_in lines) mid later line right new → kind ≡ founds.NoLine → IsNoLog p begun
  audited_none kind later line right new finds kind_is =
      none_found (finds_as p f begun mid instances turn entries audited kind later line right new finds founds.NoLine kind_is)

  -- or a part of one
  pub audited_cut : (kind : Found) (later : Option Bytes) (line right : Text) (new : Instances)
      → FindsLine kind p f (entries_in lines) mid later line right new → kind ≡ founds.Cut → IsNoLog p begun
  audited_cut kind later line right new finds kind_is =
      let found = finds_as p f begun mid instances turn entries audited kind later line right new finds founds.Cut kind_is in none_found found.0
