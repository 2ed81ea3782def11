-- Instances by their names, behind a log.
use Rattle.std.specs.Prelude.{◌≡◌, ◌≢◌, ◌⊎◌, ◌+◌, ◌<◌, ◌++◌, ℕ, List, [], ◌∷◌, length, Option, Some, None}
use Rattle.indexmap.specs.IndexMap.{get_by_text}
use Rattle.lus_values.specs.Names.{Text}
use Rattle.lus_program.specs.Programs.{Program}
use Rattle.lus_requests.specs.declared.request.Entry.{Entry}
use Rattle.lus_requests.specs.declared.request.Reply.{Reply}
use Rattle.lus_requests.specs.declared.request.Request.{Request}
use Rattle.lus_devices.specs.Devices.{Bytes, WritesBeginning, with_front, with_text}
use Rattle.lus_lines.specs.Lines.{IsLast}
use Rattle.lus_play.specs.Plays.{ended, entry_of}
use Rattle.lus_replay.specs.Replays.{AsksNothing, AsksOnly, BeginsAsked, Said, said_line}
use Rattle.lus_replay.specs.declared.line.Verdict.{Verdict}
use Rattle.lus_replay.specs.declared.line.Verdict.TheVariants as verdicts
use Rattle.lus_live_instance.specs.Lives.{IsLive}
use Rattle.lus_live_instance.specs.MachineSpecs.Constructors.{names_of}
use Rattle.lus_live_instance.specs.MachineSpecs.HistorySpecs.Histories.{History}
use Rattle.lus_hosting.specs.Logs.{Logged, entries_of, next_of}
use Rattle.lus_hosting.specs.Spellings.{Spelling}
use Rattle.lus_hosting.specs.LastEntries.{IsEntryOf}
use Rattle.lus_hosting.specs.Turns.{AreTaken, IsSo, IsTurn, Reads, Turn, Called, Denied, Noted, Replayed, added_by, answer_at, entry_at, line_at}
use Rattle.lus_hosting.specs.declared.hosted.Hosted.{Hosted}
use Rattle.lus_hosting.specs.declared.instances.Instances.{Instances}
use Rattle.lus_hosting.specs.declared.turns.Kind.{Kind}
use Rattle.lus_hosting.specs.declared.turns.Kind.TheVariants as kinds

-- an instance has these entries, or there is none, which has no entries
abbrev pub Stands : Program → ℕ → List Entry → Option Hosted → Type 0
Stands p f es None = es ≡ []
Stands p f es (Some h) = IsLive p f h.instance.reactor × (h.instance.reactor.history ≡ es) × (h.entries ≡ length es)

-- each instance has its entries of the log
abbrev pub KeepsIn : Program → ℕ → List Logged → (Text → Option Hosted) → Type 0
KeepsIn p f log named = (name : Text) → Stands p f (entries_of name log) (named name)

abbrev pub Keeps : Program → ℕ → List Logged → Instances → Type 0
Keeps p f log instances = KeepsIn p f log (get_by_text instances.by_name)

-- an entry by its parts
abbrev pub logged : Text → Text → Request → Reply → Logged
logged instance caller r a = record { instance = instance; said = record { caller = caller; request = r; reply = a } }

-- a call was made, which is the nth entry
abbrev pub HasCalled : Request → Hosted → Hosted → ℕ → Entry → Type 0
HasCalled r h h' n e =
    (a : Reply) × (e ≡ entry_of r a) × (n ≡ h.entries + 1) × (h'.instance.reactor.history ≡ h.instance.reactor.history ++ e ∷ [])
    × (h'.entries ≡ h.entries + 1)

-- the same behind a log, whoever called
abbrev pub HasCalledOn : Program → ℕ → List Logged → Text → Request → ℕ → Entry → Instances → Type 0
HasCalledOn p f log instance r n e new =
    (a : Reply) × (e ≡ entry_of r a) × (n ≡ next_of instance log) × ((caller : Text) → Keeps p f (log ++ logged instance caller r a ∷ []) new)

-- a line was replayed as an entry of an instance. The one that is right asks only what it spells
abbrev pub HasReplayedOn : Program → ℕ → List Logged → Text → Text → Text → Verdict → Instances → Type 0
HasReplayedOn p f log instance line right verdicts.Right new =
    (s : Said) × (line ≡ said_line (names_of p) (next_of instance log) s) × Keeps p f (log ++ record { instance = instance; said = s } ∷ []) new
    × AsksOnly (names_of p) (next_of instance log) line s.caller s.request × IsEntryOf new.last (record { instance = instance; said = s })
HasReplayedOn p f log instance line right verdicts.Wrong new =
    (s : Said) × (right ≡ said_line (names_of p) (next_of instance log) s) × Keeps p f (log ++ record { instance = instance; said = s } ∷ []) new
    × AsksOnly (names_of p) (next_of instance log) line s.caller s.request
    × BeginsAsked (names_of p) s.caller (next_of instance log) s.request line × (line ≢ right)
    × IsEntryOf new.last (record { instance = instance; said = s })
HasReplayedOn p f log instance line right verdicts.NoEntry new = AsksNothing (names_of p) (next_of instance log) line

-- what becomes of a line
abbrev pub IsKind : Kind → Turn → Type 0
IsKind k (Called line l) = k ≡ kinds.Called
IsKind k (Replayed l) = k ≡ kinds.Replayed
IsKind k (Noted line) = k ≡ kinds.Noted
IsKind k (Denied line d) = k ≡ kinds.Denied

pub record IsAnswered (k : Kind) (reads : Reads) (p : Program) (f : ℕ) (j s : Spelling) (log : List Logged) (line entry text : Bytes)
    (new : Instances) : Type 0 where
  pub turn : Turn
  pub kind : IsKind k turn
  pub so : IsSo reads p f turn
  pub line_is : ended line ≡ line_at reads p f log turn
  pub entry_is : entry ≡ entry_at j log turn
  pub text_is : text ≡ answer_at s log turn
  pub keeps : Keeps p f (log ++ added_by turn) new

-- a line is answered, unless its entry isn't right
abbrev pub Answers : Kind → Reads → Program → ℕ → Spelling → Spelling → List Logged → Bytes → Bytes → Bytes → Instances → Type 0
Answers kinds.Wrong reads p f j s log line entry text new = AreTaken reads × (entry ≡ []) × (text ≡ [])
Answers kinds.NoEntry reads p f j s log line entry text new = AreTaken reads × (entry ≡ []) × (text ≡ [])
Answers kinds.Unfinished reads p f j s log line entry text new = ⊥
Answers kinds.Ended reads p f j s log line entry text new = ⊥
Answers kinds.Called reads p f j s log line entry text new = IsAnswered kinds.Called reads p f j s log line entry text new
Answers kinds.Replayed reads p f j s log line entry text new = IsAnswered kinds.Replayed reads p f j s log line entry text new
Answers kinds.Noted reads p f j s log line entry text new = IsAnswered kinds.Noted reads p f j s log line entry text new
Answers kinds.Denied reads p f j s log line entry text new = IsAnswered kinds.Denied reads p f j s log line entry text new

-- a line is denied
abbrev pub HasDenied : Kind → Spelling → Text → Text → Text → Text → Text → Type 0
HasDenied kind s instance caller reason entry text = (kind ≡ kinds.Denied) × (entry ≡ []) × (text ≡ s.denies instance caller reason)

abbrev pub kind_of : Verdict → Kind
kind_of verdicts.Right = kinds.Replayed
kind_of verdicts.Wrong = kinds.Wrong
kind_of verdicts.NoEntry = kinds.NoEntry

-- ---- what was read where a line begins, and what is said of it

pub record HasTurn (k : Kind) (reads : Reads) (p : Program) (f : ℕ) (log : List Logged) (left later : Option Bytes) (W : Turn → Type 0)
    (new : Instances) : Type 0 where
  pub turn : Turn
  pub kind : IsKind k turn
  pub is : IsTurn reads p f log turn
  pub read : left ≡ with_front (line_at reads p f log turn) later
  pub said : W turn
  pub keeps : Keeps p f (log ++ added_by turn) new

-- a turn of which W holds, or an entry that isn't right, or the end, where nothing is said
abbrev pub TakesTurn : Kind → Reads → Program → ℕ → List Logged → Option Bytes → Option Bytes → (Turn → Type 0) → Type 0 → Instances → Type 0
TakesTurn kinds.Wrong reads p f log left later W Nothing new = AreTaken reads × Nothing
TakesTurn kinds.NoEntry reads p f log left later W Nothing new = AreTaken reads × Nothing
TakesTurn kinds.Unfinished reads p f log left later W Nothing new =
    (tail : Bytes) × IsLast tail left later × (0 < length tail) × Nothing × Keeps p f log new
TakesTurn kinds.Ended reads p f log left later W Nothing new = IsLast [] left later × Nothing × Keeps p f log new
TakesTurn kinds.Called reads p f log left later W Nothing new = HasTurn kinds.Called reads p f log left later W new
TakesTurn kinds.Replayed reads p f log left later W Nothing new = HasTurn kinds.Replayed reads p f log left later W new
TakesTurn kinds.Noted reads p f log left later W Nothing new = HasTurn kinds.Noted reads p f log left later W new
TakesTurn kinds.Denied reads p f log left later W Nothing new = HasTurn kinds.Denied reads p f log left later W new

-- what there is to write
abbrev pub ReadsTurn : Kind → Reads → Program → ℕ → Spelling → Spelling → List Logged → Option Bytes → Option Bytes → Text → Text → Instances → Type 0
ReadsTurn k reads p f j s log left later entry text new =
    TakesTurn k reads p f log left later (λ turn. (entry ≡ entry_at j log turn) × (text ≡ answer_at s log turn)) ((entry ≡ []) × (text ≡ [])) new

-- it is written
abbrev pub WritesTurn : Kind → Reads → Program → ℕ → Spelling → Spelling → List Logged → Option Bytes → Option Bytes
    → Option Bytes → Option Bytes → Option Bytes → Option Bytes → Instances → Type 0
WritesTurn k reads p f j s log left later l l' w w' new =
    TakesTurn k reads p f log left later (λ turn. (l' ≡ with_text l (entry_at j log turn)) × (w' ≡ with_text w (answer_at s log turn)))
    ((l' ≡ l) × (w' ≡ w)) new

-- a beginning of an entry is in the log, or it is whole there and a beginning of its answer is written
abbrev pub WritesSome : Bytes → Bytes → Option Bytes → Option Bytes → Option Bytes → Option Bytes → Type 0
WritesSome entry text l l' w w' = (WritesBeginning l l' entry × (w' ≡ w)) ⊎ ((l' ≡ with_text l entry) × WritesBeginning w w' text)

-- a turn that was written in part
pub record HasTurnSome (reads : Reads) (p : Program) (f : ℕ) (j s : Spelling) (log : List Logged) (left l l' w w' : Option Bytes) : Type 0 where
  pub turn : Turn
  pub later : Option Bytes
  pub is : IsTurn reads p f log turn
  pub read : left ≡ with_front (line_at reads p f log turn) later
  pub wrote : WritesSome (entry_at j log turn) (answer_at s log turn) l l' w w'
  pub lawful : (name : Text) → History p f (entries_of name (log ++ added_by turn))

-- nothing was written, or a part of a turn
abbrev pub TurnFails : Reads → Program → ℕ → Spelling → Spelling → List Logged → Option Bytes → Option Bytes → Option Bytes → Option Bytes → Option Bytes
    → Type 0
TurnFails reads p f j s log left l l' w w' = ((l' ≡ l) × (w' ≡ w)) ⊎ HasTurnSome reads p f j s log left l l' w w'
