-- Lines that call many instances or replay their entries, and what is written of each before the next is read.
use Rattle.std.specs.Prelude.{◌≡◌, ◌⊎◌, ◌+◌, ◌<◌, ◌++◌, ℕ, true, List, [], ◌∷◌, length, Option, Some, None, option_map, IsUtf8, ⊤}
use Rattle.std.specs.Borrow.{Bor}
use Rattle.lus_values.specs.Names.{Text}
use Rattle.lus_program.specs.Programs.{Program}
use Rattle.lus_devices.specs.Devices.{Bytes, WritesBeginning, with_front, with_text}
use Rattle.lus_bursts.specs.Syncs.{Safety}
use Rattle.lus_lines.specs.Lines.{IsLast, IsPlain, IsWholeLine, most_line_bytes}
use Rattle.lus_play.specs.Plays.{HasWhole, ended, with_tail}
use Rattle.lus_play.specs.declared.error.PlayError.{PlayError}
use Rattle.lus_play.specs.declared.error.PlayError.TheVariants as plays
use Rattle.lus_play.specs.declared.playing.Score.{Score}
use Rattle.lus_sessions.specs.Calls.{IsCallTo}
use Rattle.lus_replay.specs.Replays.{entry_said}
use Rattle.lus_live_instance.specs.MachineSpecs.Constructors.{names_of}
use Rattle.lus_live_instance.specs.MachineSpecs.HistorySpecs.Histories.{History}
use Rattle.lus_hosting.specs.Spellings.{Spelling}
use Rattle.lus_hosting.specs.Logs.{IsWord, Logged, behind_of, entries_of, is_named, logged_line, next_of}
use Rattle.lus_hosting.specs.declared.error.HostError.{HostError}
use Rattle.lus_hosting.specs.declared.error.HostError.TheVariants as hosts
use Rattle.lus_hosting.specs.declared.words.Behind.TheVariants as behind
use Rattle.lus_hosting.specs.declared.words.Lines.{Lines}
use Rattle.lus_hosting.specs.declared.words.Lines.TheVariants as lines
use Rattle.lus_hosting.specs.declared.words.Words.{Words}
use Rattle.lus_hosting.specs.declared.words.Words.TheVariants as words

-- ---- lines

-- which lines are taken: calls, each with its caller, and the entries and notes of a log; or calls alone, each with its caller, or all of this one
pub data Reads : Type 0 where
  everything : Reads
  calls : Option Text → Reads

abbrev pub reads_seen : Lines → Reads
reads_seen lines.All = everything
reads_seen (lines.Calls caller) = calls (option_map (λ t. t.now) caller)

-- entries and notes are taken too
abbrev pub AreTaken : Reads → Type 0
AreTaken everything = ⊤
AreTaken (calls caller) = ⊥

-- a line by the name of an instance, that of a caller, and what is asked. Beside entries and notes no caller's name begins as these do
abbrev pub IsSpelledSo : Reads → Bytes → Text → Text → Bytes → Type 0
IsSpelledSo everything line i c k = (line ≡ i ++ 32 ∷ (c ++ 32 ∷ k)) × IsWord i × IsWord c × (behind_of (c ++ 32 ∷ k) ≡ behind.Call)
IsSpelledSo (calls None) line i c k = (line ≡ i ++ 32 ∷ (c ++ 32 ∷ k)) × (is_named i ≡ true) × (is_named c ≡ true)
IsSpelledSo (calls (Some n)) line i c k = (line ≡ i ++ 32 ∷ k) × (is_named i ≡ true) × (is_named c ≡ true) × (c ≡ n)

-- the line of a caller's call to an instance
pub record IsCallLine (reads : Reads) (p : Program) (f : ℕ) (line : Bytes) (l : Logged) : Type 0 where
  pub call : Bytes
  pub spelled : IsSpelledSo reads line l.instance l.said.caller call
  pub characters : IsUtf8 line
  pub asks : IsCallTo p (names_of p) f call (Some l.said.request)

-- why a line is no call, by the names that it has
pub record Denial : Type 0 where
  pub instance : Text
  pub caller : Text
  pub reason : Text

-- what became of a line: a call was made, an entry was replayed, a note was passed over, or it is none of these
pub data Turn : Type 0 where
  Called : Bytes → Logged → Turn
  Replayed : Logged → Turn
  Noted : Bytes → Turn
  Denied : Bytes → Denial → Turn

-- a line that begins with a name and `#`
pub record IsNote (line : Bytes) : Type 0 where
  pub instance : Text
  pub rest : Text
  pub spelled : line ≡ instance ++ 32 ∷ rest
  pub word : IsWord instance
  pub kind : behind_of rest ≡ behind.Note

-- a denial is of words and a sentence
pub record IsDenial (d : Denial) : Type 0 where
  pub instance : IsWord d.instance
  pub caller : IsWord d.caller
  pub reason : IsPlain d.reason

module _ (reads : Reads) (p : Program) (f : ℕ) where
  -- a line is no call
  abbrev pub IsNoCall : Bytes → Type 0
  IsNoCall line = (most_line_bytes < length line) ⊎ ((l : Logged) → IsCallLine reads p f line l → ⊥)

  abbrev pub IsSo : Turn → Type 0
  IsSo (Called line l) = IsCallLine reads p f line l
  IsSo (Replayed l) = AreTaken reads × IsWord l.instance
  IsSo (Noted line) = AreTaken reads × IsNote line
  IsSo (Denied line d) = IsNoCall line × IsDenial d

  -- the line of a turn behind a log, with its line feed
  abbrev pub line_at : List Logged → Turn → Bytes
  line_at log (Called line l) = ended line
  line_at log (Replayed l) = logged_line (names_of p) log l
  line_at log (Noted line) = ended line
  line_at log (Denied line d) = ended line

  -- it is one line
  pub record IsTurn (log : List Logged) (t : Turn) : Type 0 where
    pub whole : IsWholeLine (line_at log t)
    pub so : IsSo t

-- what a turn adds to the log
abbrev pub added_by : Turn → List Logged
added_by (Called line l) = l ∷ []
added_by (Replayed l) = l ∷ []
added_by (Noted line) = []
added_by (Denied line d) = []

-- how many of its lines are no calls
abbrev pub denied_by : Turn → ℕ
denied_by (Called line l) = 0
denied_by (Replayed l) = 0
denied_by (Noted line) = 0
denied_by (Denied line d) = 1

-- ---- what is written

-- what a log gets of a turn behind it: the entry of a call
abbrev pub entry_at : Spelling → List Logged → Turn → Bytes
entry_at j log (Called line l) = j.tells l.instance l.said.caller (next_of l.instance log) (entry_said l.said)
entry_at j log (Replayed l) = []
entry_at j log (Noted line) = []
entry_at j log (Denied line d) = []

-- what is answered to a turn behind a log
abbrev pub answer_at : Spelling → List Logged → Turn → Bytes
answer_at s log (Called line l) = s.tells l.instance l.said.caller (next_of l.instance log) (entry_said l.said)
answer_at s log (Replayed l) = []
answer_at s log (Noted line) = []
answer_at s log (Denied line d) = s.denies d.instance d.caller d.reason

module _ (reads : Reads) (p : Program) (f : ℕ) (j s : Spelling) (before : List Logged) where
  -- behind entries that were there so many lines are no calls among those that were read, this is then the log, this text comes into it, and
  -- this is answered
  pub data Turns : List Logged → ℕ → Bytes → Bytes → Bytes → Type 0 where
    none : Turns before 0 [] [] []
    more : (log : List Logged) (denied : ℕ) (read kept written : Bytes) (t : Turn) → Turns log denied read kept written → IsTurn reads p f log t
        → Turns (log ++ added_by t) (denied + denied_by t) (read ++ line_at reads p f log t) (kept ++ entry_at j log t) (written ++ answer_at s log t)

  -- All lines were read up to the end. The entries of each instance are a lawful history of the node, and what is to be written is.
  pub record HasHosted (left end l l' w w' : Option Bytes) (score : Score) : Type 0 where
    pub log : List Logged
    pub denied : ℕ
    pub read : Bytes
    pub kept : Bytes
    pub written : Bytes
    pub later : Option Bytes
    pub tail : Bytes
    pub turns : Turns log denied read kept written
    pub were : left ≡ with_front read later
    pub last : IsLast tail later end
    pub logged : l' ≡ with_text l kept
    pub wrote : w' ≡ with_text w written
    pub lawful : (name : Text) → History p f (entries_of name log)
    pub entered : length before + score.entered ≡ length log
    pub refused : score.refused ≡ with_tail tail denied

  -- of these entries and these lines the first are answered: the log has the lines of their entries whole, and of their answers a beginning is
  -- written
  pub record IsAhead (log : List Logged) (lines : Bytes) (l l' w w' : Option Bytes) : Type 0 where
    pub told : List Logged
    pub rest : List Logged
    pub denied : ℕ
    pub read : Bytes
    pub later : Bytes
    pub kept : Bytes
    pub written : Bytes
    pub turns : Turns told denied read kept written
    pub log_is : log ≡ told ++ rest
    pub lines_are : lines ≡ read ++ later
    pub whole : HasWhole l l' kept
    pub replied : WritesBeginning w w' written

  -- Some lines were read. The entries of each instance are a lawful history of the node, of what is to be written a beginning is, and no
  -- answer is begun before its entry is whole in the log.
  pub record HasHostedSome (left l l' w w' : Option Bytes) : Type 0 where
    pub log : List Logged
    pub denied : ℕ
    pub read : Bytes
    pub kept : Bytes
    pub written : Bytes
    pub later : Option Bytes
    pub turns : Turns log denied read kept written
    pub were : left ≡ with_front read later
    pub lawful : (name : Text) → History p f (entries_of name log)
    pub logged : WritesBeginning l l' kept
    pub wrote : WritesBeginning w w' written
    pub ahead : IsAhead log read l l' w w'

  -- Of lines that were read the first are answered, of their answers a beginning is written, and the log was synced once it had the lines of
  -- their entries.
  pub record AreSafe (is_safe : Safety) (left l l' w w' : Option Bytes) : Type 0 where
    pub told : List Logged
    pub denied : ℕ
    pub read : Bytes
    pub later : Option Bytes
    pub kept : Bytes
    pub written : Bytes
    pub turns : Turns told denied read kept written
    pub were : left ≡ with_front read later
    pub safe : is_safe l kept l'
    pub replied : WritesBeginning w w' written

-- ---- why a run stops

abbrev pub stop_of : PlayError → HostError
stop_of plays.Read = hosts.Read
stop_of plays.Write = hosts.Write
stop_of plays.Memory = hosts.Memory
stop_of plays.Full = hosts.Full

-- no line stops a run that takes calls alone
abbrev pub StopsBy : Reads → HostError → Type 0
StopsBy reads (hosts.Line n) = AreTaken reads
StopsBy reads (hosts.Wrong n) = AreTaken reads
StopsBy reads hosts.Read = ⊤
StopsBy reads hosts.Write = ⊤
StopsBy reads hosts.Memory = ⊤
StopsBy reads hosts.Full = ⊤

-- ---- what the code reads

abbrev pub HasWords : Reads → Bytes → Words → Type 0
HasWords reads line (words.Call instance caller call) = IsSpelledSo reads line instance.now caller.now call.now
HasWords reads line (words.Entry instance text) = AreTaken reads × (line ≡ instance.now ++ 32 ∷ text.now) × IsWord instance.now
HasWords reads line words.Note = AreTaken reads × IsNote line
HasWords reads line (words.Short instance) = IsWord instance.now
HasWords reads line words.Word = ⊤
HasWords reads line words.Nameless = ⊤

-- the words of a call's line are read
abbrev pub AreCallWords : Text → Text → Bytes → Words → Type 0
AreCallWords instance caller call (words.Call i c k) = (i.now ≡ instance) × (c.now ≡ caller) × (k.now ≡ call)
AreCallWords instance caller call (words.Entry i t) = ⊥
AreCallWords instance caller call words.Note = ⊥
AreCallWords instance caller call (words.Short i) = ⊥
AreCallWords instance caller call words.Word = ⊥
AreCallWords instance caller call words.Nameless = ⊥

abbrev pub ReadsWords : Reads → Bytes → Words → Type 0
ReadsWords reads line w = (instance caller call : Text) → IsSpelledSo reads line instance caller call → AreCallWords instance caller call w

-- the caller and the call behind the name of an instance
abbrev pub SplitsCall : Option Text → Text → Option (Bor Text × Bor Text) → Type 0
SplitsCall (Some n) text None = ⊥
SplitsCall (Some n) text (Some s) = (s.0.now ≡ n) × (s.1.now ≡ text)
SplitsCall None text None = (caller call : Text) → IsWord caller → text ≡ caller ++ 32 ∷ call → ⊥
SplitsCall None text (Some s) = (text ≡ s.0.now ++ 32 ∷ s.1.now) × IsWord s.0.now

-- what stands behind the first word of a line
abbrev pub StandsBehind : Text → Words → Type 0
StandsBehind text (words.Call i c k) = behind_of text ≡ behind.Call
StandsBehind text (words.Entry i t) = behind_of text ≡ behind.Entry
StandsBehind text words.Note = behind_of text ≡ behind.Note
StandsBehind text (words.Short i) = behind_of text ≡ behind.Call
StandsBehind text words.Word = ⊥
StandsBehind text words.Nameless = ⊥

abbrev pub ReadsBehind : Bytes → Words → Type 0
ReadsBehind line w = (instance text : Text) → IsWord instance → line ≡ instance ++ 32 ∷ text → StandsBehind text w
