-- Logs that are audited: what is found of their lines, and reported.
use Rattle.std.specs.Prelude.{◌≡◌, ◌≢◌, ◌+◌, ◌<◌, ◌++◌, ℕ, Bool, true, false, List, [], ◌∷◌, length, Option, Some, codes, IsUtf8, ⊤}
use Rattle.std.specs.Fmt.{decimal}
use Rattle.std.specs.List.{All}
use Rattle.lus_values.specs.Names.{Names, Text}
use Rattle.lus_program.specs.Programs.{Program}
use Rattle.lus_requests.specs.declared.request.Reply.{Reply}
use Rattle.lus_devices.specs.Devices.{AtEnd, Bytes, with_front}
use Rattle.lus_asked.specs.Asked.{IsCaller, IsSpelled}
use Rattle.lus_lines.specs.Lines.{IsLast, IsPlain, IsWholeLine}
use Rattle.lus_play.specs.Plays.{ended}
use Rattle.lus_printable.specs.Printable.{printable}
use Rattle.lus_replay.specs.Replays.{BeginsAsked}
use Rattle.lus_live_instance.specs.MachineSpecs.Constructors.{names_of}
use Rattle.lus_live_instance.specs.MachineSpecs.HistorySpecs.Histories.{History}
use Rattle.lus_hosting.specs.Hosts.{Keeps, logged}
use Rattle.lus_hosting.specs.Logs.{IsWord, Logged, entries_of, logged_line, next_of}
use Rattle.lus_hosting.specs.LastEntries.{IsEntryOf}
use Rattle.lus_hosting.specs.Turns.{IsNote}
use Rattle.lus_hosting.specs.declared.auditing.Found.{Found}
use Rattle.lus_hosting.specs.declared.auditing.Found.TheVariants as founds
use Rattle.lus_hosting.specs.declared.instances.Instances.{Instances}
use Rattle.lus_hosting.specs.declared.named_entry.NamedEntry.{NamedEntry}

-- ---- logs

-- a line of a log is an entry, or a note without its line feed
pub data LogLine : Type 0 where
  LogEntry : Logged → LogLine
  LogNote : Text → LogLine

-- the line, with its line feed, behind the entries of a log
abbrev pub line_in : Names → List Logged → LogLine → Text
line_in names log (LogEntry l) = logged_line names log l
line_in names log (LogNote t) = ended t

abbrev pub entry_in : LogLine → List Logged
entry_in (LogEntry l) = l ∷ []
entry_in (LogNote t) = []

-- the entries of a log, and those of further lines
abbrev pub log_behind : List Logged → List LogLine → List Logged
log_behind log [] = log
log_behind log (i ∷ is) = log_behind (log ++ entry_in i) is

abbrev pub entries_in : List LogLine → List Logged
entries_in lines = log_behind [] lines

-- lines behind the entries of a log
abbrev pub lines_text : Names → List Logged → List LogLine → Text
lines_text names log [] = []
lines_text names log (i ∷ is) = line_in names log i ++ lines_text names (log ++ entry_in i) is

abbrev pub log_text : Names → List LogLine → Text
log_text names lines = lines_text names [] lines

-- a name is one word, and a note is one
abbrev pub IsLogLine : LogLine → Type 0
IsLogLine (LogEntry l) = IsWord l.instance
IsLogLine (LogNote t) = IsNote t × IsPlain t

-- the entries of each instance are a lawful history of the node
abbrev pub AreLawful : Program → ℕ → List Logged → Type 0
AreLawful p f log = (name : Text) → History p f (entries_of name log)

-- ---- what an audit reports, in which lines stand as they may be printed

-- of a lawful log, how many entries it has
abbrev pub lawful_log_text : List Logged → Text
lawful_log_text log = codes "entries " ++ decimal (length log) ++ codes " lawful\n"

-- of the nth line, which isn't the right one
abbrev pub wrong_log_text : ℕ → Text → Text → Text
wrong_log_text n line right = codes "line " ++ decimal n ++ codes "\nwritten " ++ printable line ++ codes "right   " ++ printable right

-- all that is left is a lawful log, which was seen and is reported
pub record IsLawfulLog (p : Program) (f : ℕ) (Seen : List LogLine → Type 0) (left : Option Bytes) (report : Text) : Type 0 where
  pub lines : List LogLine
  pub end : Option Bytes
  pub words : All IsLogLine lines
  pub read : left ≡ with_front (log_text (names_of p) lines) end
  pub over : AtEnd end
  pub lawful : AreLawful p f (entries_in lines)
  pub seen : Seen lines
  pub reported : report ≡ lawful_log_text (entries_in lines)

-- behind its name a line begins as one of an entry's request, the next of its instance
abbrev pub BeginsLogged : Names → List Logged → Text → Logged → Type 0
BeginsLogged names log line l =
    (text : Text) × (line ≡ l.instance ++ 32 ∷ text) × BeginsAsked names l.said.caller (next_of l.instance log) l.said.request text

-- The log is lawful up to a line of a request, which isn't the right one, and is reported with that. The lines before it were seen, and the
-- right entry in its place.
pub record HasWrongEntry (p : Program) (f : ℕ) (Seen : List LogLine → Type 0) (left : Option Bytes) (report : Text) : Type 0 where
  pub before : List LogLine
  pub line : Text
  pub right : Logged
  pub later : Option Bytes
  pub words : All IsLogLine before
  pub read : left ≡ with_front (log_text (names_of p) before ++ line) later
  pub asked : BeginsLogged (names_of p) (entries_in before) line right
  pub lawful : AreLawful p f (entries_in before ++ right ∷ [])
  pub differs : line ≢ logged_line (names_of p) (entries_in before) right
  pub seen : Seen (before ++ LogEntry right ∷ [])
  pub reported : report ≡ wrong_log_text (length before + 1) line (logged_line (names_of p) (entries_in before) right)

abbrev pub HasAuditedLog : Program → ℕ → (List LogLine → Type 0) → Bool → Option Bytes → Text → Type 0
HasAuditedLog p f Seen true left report = IsLawfulLog p f Seen left report
HasAuditedLog p f Seen false left report = HasWrongEntry p f Seen left report

-- an observer that had seen nothing has seen these lines
abbrev pub Observes : (Old New : List LogLine → Type 0) → List LogLine → Type 0
Observes Old New lines = Old [] → New lines

-- ---- what is to be found

-- an entry that can be read back
pub record IsReadable (names : Names) (l : Logged) : Type 0 where
  pub instance : IsCaller l.instance
  pub caller : IsCaller l.said.caller
  pub request : IsSpelled names l.said.request

-- a line that can be read back is characters
abbrev pub IsReadableLine : Names → List Logged → LogLine → Type 0
IsReadableLine names log (LogEntry l) = IsReadable names l × IsUtf8 (logged_line names log l)
IsReadableLine names log (LogNote t) = IsNote t × IsPlain t × IsUtf8 (ended t)

abbrev pub AreReadable : Names → List Logged → List LogLine → Type 0
AreReadable names log [] = ⊤
AreReadable names log (i ∷ is) = IsReadableLine names log i × AreReadable names (log ++ entry_in i) is

-- an entry with this reply
abbrev pub answered : Logged → Reply → Logged
answered l a = logged l.instance l.said.caller l.said.request a

-- an entry is the first whose reply isn't the right one, which is reported with it
pub record IsWrongLog (p : Program) (f : ℕ) (report : Text) (lines : List LogLine) : Type 0 where
  pub before : List LogLine
  pub written : Logged
  pub behind : List LogLine
  pub right : Reply
  pub lines_are : lines ≡ before ++ LogEntry written ∷ behind
  pub lawful : AreLawful p f (entries_in before ++ answered written right ∷ [])
  pub differs : logged_line (names_of p) (entries_in before) written ≢ logged_line (names_of p) (entries_in before) (answered written right)
  pub reported : report
      ≡ wrong_log_text (length before + 1) (logged_line (names_of p) (entries_in before) written)
      (logged_line (names_of p) (entries_in before) (answered written right))

-- a log is lawful, or its first wrong entry is reported
abbrev pub IsToFind : Program → ℕ → List LogLine → Bool → Text → Type 0
IsToFind p f lines true report = AreLawful p f (entries_in lines) × (report ≡ lawful_log_text (entries_in lines))
IsToFind p f lines false report = IsWrongLog p f report lines

-- what is to be found of a log that can be read back is found
abbrev pub FindsInLog : Program → ℕ → Bool → Option Bytes → Text → Type 0
FindsInLog p f is_lawful left report =
    (lines : List LogLine) → AreReadable (names_of p) [] lines → left ≡ Some (log_text (names_of p) lines)
    → (all : Bool) (text : Text) → IsToFind p f lines all text → (is_lawful ≡ all) × (report ≡ text)

-- what is left is no log that can be read back
abbrev pub IsNoLog : Program → Option Bytes → Type 0
IsNoLog p left = (lines : List LogLine) → AreReadable (names_of p) [] lines → left ≡ Some (log_text (names_of p) lines) → ⊥

-- ---- one line

-- of what can be read back a line asks only what this entry does
abbrev pub AsksLogged : Names → List Logged → Text → Logged → Type 0
AsksLogged names log line l =
    (m : Logged) → IsReadable names m → BeginsLogged names log line m
    → (l.instance ≡ m.instance) × (l.said.caller ≡ m.said.caller) × (l.said.request ≡ m.said.request)

-- what a line behind a log is
abbrev pub IsFound : Found → Program → ℕ → List Logged → Text → Text → Instances → Type 0
IsFound founds.Right p f log line right new =
    (l : Logged) × (line ≡ logged_line (names_of p) log l) × IsWord l.instance × AsksLogged (names_of p) log line l × Keeps p f (log ++ l ∷ []) new
    × IsEntryOf new.last l
IsFound founds.Noted p f log line right new = (t : Text) × (line ≡ ended t) × IsNote t × Keeps p f log new
IsFound founds.Wrong p f log line right new =
    (l : Logged) × (right ≡ logged_line (names_of p) log l) × IsWord l.instance × BeginsLogged (names_of p) log line l
    × AsksLogged (names_of p) log line l × (line ≢ right) × Keeps p f (log ++ l ∷ []) new × IsEntryOf new.last l
IsFound founds.NoLine p f log line right new =
    (g : LogLine) → IsReadableLine (names_of p) log g → line ≡ line_in (names_of p) log g → ⊥
IsFound founds.Cut p f log line right new = ⊥
IsFound founds.Over p f log line right new = ⊥

-- what is left behind a log is neither its end nor begins with a line that can be read back
pub record IsNoneLeft (names : Names) (log : List Logged) (left : Option Bytes) : Type 0 where
  pub some : left ≡ Some [] → ⊥
  pub no_line : (g : LogLine) (rest : Text) → IsReadableLine names log g → IsWholeLine (line_in names log g) → left ≡ Some (line_in names log g ++ rest) → ⊥

-- a line was read, behind a log
pub record IsLineLeft (found : Found) (p : Program) (f : ℕ) (log : List Logged) (left later : Option Bytes) (line right : Text) (new : Instances) : Type 0 where
  pub whole : IsWholeLine line
  pub read : left ≡ with_front line later
  pub is : IsFound found p f log line right new

-- what was read behind a log
abbrev pub FindsLine : Found → Program → ℕ → List Logged → Option Bytes → Option Bytes → Text → Text → Instances → Type 0
FindsLine founds.Right p f log left later line right new = IsLineLeft founds.Right p f log left later line right new
FindsLine founds.Noted p f log left later line right new = IsLineLeft founds.Noted p f log left later line right new
FindsLine founds.Wrong p f log left later line right new = IsLineLeft founds.Wrong p f log left later line right new
FindsLine founds.NoLine p f log left later line right new = IsNoneLeft (names_of p) log left
FindsLine founds.Cut p f log left later line right new =
    IsNoneLeft (names_of p) log left × IsLast line left later × (0 < length line) × Keeps p f log new
FindsLine founds.Over p f log left later line right new = IsLast [] left later × Keeps p f log new

-- what was found behind lines is seen, where it is a line: of an entry the right one
abbrev pub SeesMore : Found → Option NamedEntry → (List LogLine → Type 0) → List LogLine → Type 0
SeesMore founds.Right last Seen lines = (l : Logged) → IsEntryOf last l → Seen (lines ++ LogEntry l ∷ [])
SeesMore founds.Noted last Seen lines = (t : Text) → Seen (lines ++ LogNote t ∷ [])
SeesMore founds.Wrong last Seen lines = (l : Logged) → IsEntryOf last l → Seen (lines ++ LogEntry l ∷ [])
SeesMore founds.NoLine last Seen lines = Seen lines
SeesMore founds.Cut last Seen lines = Seen lines
SeesMore founds.Over last Seen lines = Seen lines
