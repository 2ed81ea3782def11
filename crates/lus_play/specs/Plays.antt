-- Lines that are played as calls, one by one.
use Rattle.std.specs.Prelude.{◌≡◌, ◌⊎◌, ◌+◌, ◌<◌, ◌++◌, ℕ, Bool, true, false, List, [], ◌∷◌, length, map, flat_map, Option, Some, None}
use Rattle.std.specs.List.{AllZip}
use Rattle.lus_devices.specs.Devices.{Bytes, WritesBeginning, with_front, with_text}
use Rattle.lus_bursts.specs.Syncs.{Safety}
use Rattle.lus_requests.specs.declared.request.Request.{Request}
use Rattle.lus_requests.specs.declared.request.Reply.{Reply}
use Rattle.lus_requests.specs.declared.request.Entry.{Entry}
use Rattle.lus_lines.specs.Lines.{IsLast, IsNext, IsPlain, most_line_bytes}
use Rattle.lus_lines.specs.declared.error.LineError.{LineError}
use Rattle.lus_lines.specs.declared.error.LineError.TheVariants as lines
use Rattle.lus_play.specs.declared.error.PlayError.{PlayError}
use Rattle.lus_play.specs.declared.error.PlayError.TheVariants as plays
use Rattle.lus_play.specs.declared.playing.Score.{Score}
use Rattle.lus_play.specs.declared.playing.Turn.{Turn}
use Rattle.lus_play.specs.declared.playing.Turn.TheVariants.{Entered, Refused, Unfinished, Ended}

abbrev pub line_fault : LineError → PlayError
line_fault lines.Read = plays.Read
line_fault lines.Memory = plays.Memory

-- a request of the one caller, with its reply
abbrev pub entry_of : Request → Reply → Entry
entry_of r a = record { caller = 0; request = r; reply = a }

-- a line has a request, or it is too long or has none
abbrev pub Reads : (Bytes → Option Request → Type 0) → Bytes → Option Request → Type 0
Reads R line (Some r) = R line (Some r)
Reads R line None = (most_line_bytes < length line) ⊎ R line None

pub record IsReadAs (R : Bytes → Option Request → Type 0) (line : Bytes) (o : Option Request) : Type 0 where
  pub plain : IsPlain line
  pub reads : Reads R line o

-- the requests that there are
abbrev pub requests : List (Option Request) → List Request
requests [] = []
requests (None ∷ os) = requests os
requests (Some r ∷ os) = r ∷ requests os

-- a line with its line feed
abbrev pub ended : Bytes → Bytes
ended line = line ++ 10 ∷ []

-- the texts of entries, the first of which is the nth
abbrev pub texts : (ℕ → Entry → Bytes) → ℕ → List Entry → Bytes
texts says n [] = []
texts says n (e ∷ es) = says n e ++ texts says (n + 1) es

-- So many lines were read, and so many of them are no calls; the requests of the others, in their order, are those of the entries.
pub record Asks (R : Bytes → Option Request → Type 0) (left later : Option Bytes) (entries : List Entry) (turns refused : ℕ) : Type 0 where
  pub lines : List Bytes
  pub reads : List (Option Request)
  pub were : left ≡ with_front (flat_map ended lines) later
  pub read : AllZip (IsReadAs R) lines reads
  pub asked : map (λ e. e.request) entries ≡ requests reads
  pub turned : length lines ≡ turns
  pub counted : turns ≡ length entries + refused

-- an unfinished line is one more that is no call
abbrev pub with_tail : Bytes → ℕ → ℕ
with_tail [] n = n
with_tail (b ∷ bs) n = n + 1

-- all lines were read up to the end
abbrev pub AsksAll : (Bytes → Option Request → Type 0) → Option Bytes → Option Bytes → List Entry → Score → Type 0
AsksAll R left end entries score =
    (later : Option Bytes) × (tail : Bytes) × (refused : ℕ) × Asks R left later entries (score.entered + refused) refused
    × IsLast tail later end × (score.refused ≡ with_tail tail refused)

-- some lines were read
abbrev pub AsksSome : (Bytes → Option Request → Type 0) → Option Bytes → List Entry → Type 0
AsksSome R left entries = (later : Option Bytes) × (turns refused : ℕ) × Asks R left later entries turns refused

-- what a device took begins with this text
abbrev pub HasWhole : Option Bytes → Option Bytes → Bytes → Type 0
HasWhole l l' text = (tail : Bytes) × (l' ≡ with_text l (text ++ tail))

-- Of entries the first are told, with which the log is safe. What a log has of entries and what is told of them are such texts.
pub record IsKept (logged tells : List Entry → Bytes) (IsSafe : Safety) (entries : List Entry) (l l' w w' : Option Bytes) : Type 0 where
  pub told : List Entry
  pub rest : List Entry
  pub all : entries ≡ told ++ rest
  pub safe : (told ≡ []) ⊎ IsSafe l (logged told) l'
  pub wrote : w' ≡ with_text w (tells told)

-- All lines were read up to the end: the texts of their entries are in the log, and their replies are written; the log is safe with all that
-- is told.
pub record HasPlayedAll (R : Bytes → Option Request → Type 0) (logs tells : ℕ → Entry → Bytes) (IsSafe : Safety) (first : ℕ) (left end : Option Bytes)
    (h h' : List Entry) (l l' w w' : Option Bytes) (score : Score) : Type 0 where
  pub entries : List Entry
  pub asks : AsksAll R left end entries score
  pub entered : h' ≡ h ++ entries
  pub logged : l' ≡ with_text l (texts logs first entries)
  pub told : w' ≡ with_text w (texts tells first entries)
  pub kept : IsKept (texts logs first) (texts tells first) IsSafe entries l l' w w'

-- Some lines were read. A beginning of the texts of their entries is in the log; of some its texts are whole and it is safe with them, and
-- of their replies a beginning is written.
pub record HasPlayedAhead (R : Bytes → Option Request → Type 0) (logs tells : ℕ → Entry → Bytes) (IsSafe : Safety) (first : ℕ) (left : Option Bytes)
    (h h' : List Entry) (l l' w w' : Option Bytes) : Type 0 where
  pub told : List Entry
  pub rest : List Entry
  pub asks : AsksSome R left (told ++ rest)
  pub entered : h' ≡ h ++ (told ++ rest)
  pub logged : WritesBeginning l l' (texts logs first (told ++ rest))
  pub whole : HasWhole l l' (texts logs first told)
  pub safe : (told ≡ []) ⊎ IsSafe l (texts logs first told) l'
  pub replied : WritesBeginning w w' (texts tells first told)

-- ---- one line

-- a line was entered and its reply is held, or it is no call
abbrev pub Answers : (Bytes → Option Request → Type 0) → (logs tells : ℕ → Entry → Bytes) → ℕ → Bytes → Bool
    → (h h' : List Entry) → (l l' : Option Bytes) → (held held' : Bytes) → Type 0
Answers R logs tells n line true h h' l l' held held' =
    (e : Entry) × R line (Some e.request) × (h' ≡ h ++ e ∷ []) × (l' ≡ with_text l (logs n e)) × (held' ≡ held ++ tells n e)
Answers R logs tells n line false h h' l l' held held' = R line None × (h' ≡ h) × (l' ≡ l) × (held' ≡ held)

-- nothing was done, or the call was made, and a beginning of its entry is in the log
abbrev pub AnswerFails : (Bytes → Option Request → Type 0) → (ℕ → Entry → Bytes) → ℕ → Bytes → (h h' : List Entry) → (l l' : Option Bytes) → Type 0
AnswerFails R logs n line h h' l l' =
    ((h' ≡ h) × (l' ≡ l)) ⊎ ((e : Entry) × R line (Some e.request) × (h' ≡ h ++ e ∷ []) × WritesBeginning l l' (logs n e))

abbrev pub turn_of : Bool → Turn
turn_of true = Entered
turn_of false = Refused

abbrev pub TurnIs : Turn → (Bytes → Option Request → Type 0) → (logs tells : ℕ → Entry → Bytes) → ℕ → (left later : Option Bytes)
    → (h h' : List Entry) → (l l' : Option Bytes) → (held held' : Bytes) → Type 0
TurnIs Entered R logs tells n left later h h' l l' held held' =
    (line : Bytes) × (e : Entry) × IsNext line left later × R line (Some e.request) × (h' ≡ h ++ e ∷ []) × (l' ≡ with_text l (logs n e))
    × (held' ≡ held ++ tells n e)
TurnIs Refused R logs tells n left later h h' l l' held held' =
    (line : Bytes) × IsNext line left later × Reads R line None × (h' ≡ h) × (l' ≡ l) × (held' ≡ held)
TurnIs Unfinished R logs tells n left later h h' l l' held held' =
    (tail : Bytes) × IsLast tail left later × (0 < length tail) × (h' ≡ h) × (l' ≡ l) × (held' ≡ held)
TurnIs Ended R logs tells n left later h h' l l' held held' = IsLast [] left later × (h' ≡ h) × (l' ≡ l) × (held' ≡ held)

abbrev pub TurnFails : (Bytes → Option Request → Type 0) → (ℕ → Entry → Bytes) → ℕ → Option Bytes → (h h' : List Entry) → (l l' : Option Bytes) → Type 0
TurnFails R logs n left h h' l l' =
    ((h' ≡ h) × (l' ≡ l))
    ⊎ ((later : Option Bytes) × (line : Bytes) × (e : Entry) × IsNext line left later × R line (Some e.request) × (h' ≡ h ++ e ∷ [])
    × WritesBeginning l l' (logs n e))
