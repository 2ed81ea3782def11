-- Journals that are replayed line by line: which lines are entries with the right replies, and what ended them.
use Rattle.std.specs.Prelude.{◌≡◌, ◌≢◌, ◌⊎◌, ◌+◌, ◌<◌, ◌++◌, ℕ, Bool, true, false, List, [], ◌∷◌, length, map, Option, Some, None, codes, ⊤}
use Rattle.std.specs.List.{All, AllZip}
use Rattle.lus_values.specs.Names.{Text, Names, name_of}
use Rattle.lus_requests.specs.declared.request.Request.{Request}
use Rattle.lus_requests.specs.declared.request.Reply.{Reply}
use Rattle.lus_requests.specs.declared.request.Entry.{Entry}
use Rattle.lus_devices.specs.Devices.{Bytes, with_front}
use Rattle.lus_devices.specs.Journals.{count_text, line_text, reply_text}
use Rattle.lus_asked.specs.Asked.{IsCaller, IsSpelled, asked_text}
use Rattle.lus_lines.specs.Lines.{IsLast, IsPlain, IsWholeLine}
use Rattle.lus_play.specs.Plays.{entry_of}
use Rattle.lus_replay.specs.declared.line.Verdict.{Verdict}
use Rattle.lus_replay.specs.declared.line.Verdict.TheVariants as verdicts
use Rattle.lus_replay.specs.declared.replaying.Ending.{Ending}
use Rattle.lus_replay.specs.declared.replaying.Ending.TheVariants as endings
use Rattle.lus_replay.specs.declared.replaying.Kind.{Kind}
use Rattle.lus_replay.specs.declared.replaying.Kind.TheVariants as kinds
use Rattle.lus_replay.specs.declared.replaying.Replayed.{Replayed}
use Rattle.lus_replay.specs.declared.replaying.Turn.{Turn}
use Rattle.lus_replay.specs.declared.replaying.Turn.TheVariants as turns

-- the nth line of a journal, of an entry whose caller has this name
abbrev pub line_of : Names → Text → ℕ → Entry → Text
line_of names caller n e = line_text names (caller ∷ []) n e

-- a caller's name, what it asked, and the reply
pub record Said : Type 0 where
  pub caller : Text
  pub request : Request
  pub reply : Reply

abbrev pub entry_said : Said → Entry
entry_said s = entry_of s.request s.reply

-- its line, the nth of a journal
abbrev pub said_line : Names → ℕ → Said → Text
said_line names n s = line_of names s.caller n (entry_said s)

-- ---- the lines of a journal behind its first

-- an entry; how many entries there are so far, where a run ended; or what a crash left of a line
pub data Item : Type 0 where
  Told : Said → Item
  Counted : Item
  CutShort : Text → Item

-- the mark behind what a crash left, which ends that line
abbrev pub cut_mark : Text
cut_mark = codes "# cut short\n"

-- how an item is spelled behind k entries
abbrev pub item_text : Names → ℕ → Item → Text
item_text names k (Told s) = said_line names (k + 1) s
item_text names k Counted = count_text k
item_text names k (CutShort t) = t ++ cut_mark

-- what an item tells
abbrev pub said_in : Item → List Said
said_in (Told s) = s ∷ []
said_in Counted = []
said_in (CutShort t) = []

-- the entries with the names of their callers
abbrev pub saids_of : List Item → List Said
saids_of [] = []
saids_of (i ∷ is) = said_in i ++ saids_of is

-- how items are spelled behind k entries
abbrev pub items_text : Names → ℕ → List Item → Text
items_text names k [] = []
items_text names k (i ∷ is) = item_text names k i ++ items_text names (k + length (said_in i)) is

-- what is left of a line has no line feed
abbrev pub IsItem : Item → Type 0
IsItem (Told s) = ⊤
IsItem Counted = ⊤
IsItem (CutShort t) = IsPlain t

abbrev pub kind_of : Item → Kind
kind_of (Told s) = kinds.Entry
kind_of Counted = kinds.Count
kind_of (CutShort t) = kinds.CutShort

-- whether an item is the number of entries
abbrev pub is_count : Kind → Bool
is_count kinds.Entry = false
is_count kinds.Count = true
is_count kinds.CutShort = false

-- how many entries an item of such a kind tells
abbrev pub told_by : Kind → ℕ
told_by kinds.Entry = 1
told_by kinds.Count = 0
told_by kinds.CutShort = 0

-- whether the last item is the number of entries
abbrev pub ends_counted : List Item → Bool
ends_counted [] = false
ends_counted (i ∷ []) = is_count (kind_of i)
ends_counted (i ∷ j ∷ is) = ends_counted (j ∷ is)

-- a line is what a crash left of one, with its mark
abbrev pub IsCutShort : Text → Type 0
IsCutShort line = (tail : Text) × (line ≡ tail ++ cut_mark)

-- the word that a journal's first line begins with
abbrev pub BeginsJournal : Text → Type 0
BeginsJournal line = (rest : Text) × (line ≡ codes "instance " ++ rest)

-- ---- lines that are replayed

-- a line begins as one of such a request
abbrev pub BeginsAsked : Names → Text → ℕ → Request → Text → Type 0
BeginsAsked names caller n r line = (given : Text) × (line ≡ asked_text names caller n r ++ given)

-- a line begins as another does before its `done`
pub record BeginsAs (line done : Text) : Type 0 where
  pub front : Text
  pub given : Text
  pub spelled : done ≡ front ++ codes "done\n"
  pub begins : line ≡ front ++ given

-- the nth line begins as that of no request
abbrev pub AsksNothing : Names → ℕ → Text → Type 0
AsksNothing names n line = (caller : Text) (r : Request) → IsCaller caller → IsSpelled names r → BeginsAsked names caller n r line → ⊥

-- it begins as that of no other caller and request than these
abbrev pub AsksOnly : Names → ℕ → Text → Text → Request → Type 0
AsksOnly names n line caller r =
    (c : Text) (q : Request) → IsCaller c → IsSpelled names q → BeginsAsked names c n q line → (caller ≡ c) × (r ≡ q)

-- what a line is beside the right one of a request
abbrev pub IsCompared : Verdict → Names → Text → ℕ → Request → Text → Text → Type 0
IsCompared verdicts.Right names caller n r line right = line ≡ right
IsCompared verdicts.Wrong names caller n r line right = BeginsAsked names caller n r line × (line ≢ right)
IsCompared verdicts.NoEntry names caller n r line right = BeginsAsked names caller n r line → ⊥

-- the line spells a request and another reply than the right one
pub record IsWrong (names : Names) (n : ℕ) (line right : Text) (h h' : List Entry) : Type 0 where
  pub said : Said
  pub asked : BeginsAsked names said.caller n said.request line
  pub only : AsksOnly names n line said.caller said.request
  pub differs : line ≢ right
  pub spelled : right ≡ said_line names n said
  pub entered : h' ≡ h ++ entry_said said ∷ []

-- the line is that of an entry, which is new in the history
pub record IsRight (names : Names) (n : ℕ) (line : Text) (h h' : List Entry) : Type 0 where
  pub said : Said
  pub only : AsksOnly names n line said.caller said.request
  pub spelled : line ≡ said_line names n said
  pub entered : h' ≡ h ++ entry_said said ∷ []

-- what the nth line is
abbrev pub IsJudged : Verdict → Names → ℕ → Text → Text → List Entry → List Entry → Type 0
IsJudged verdicts.Right names n line right h h' = IsRight names n line h h'
IsJudged verdicts.Wrong names n line right h h' = IsWrong names n line right h h'
IsJudged verdicts.NoEntry names n line right h h' = AsksNothing names n line

-- what is read as an entry asks nothing else
abbrev pub AsksSo : Names → ℕ → Item → Type 0
AsksSo names k (Told s) = AsksOnly names (k + 1) (said_line names (k + 1) s) s.caller s.request
AsksSo names k Counted = ⊤
AsksSo names k (CutShort t) = ⊤

-- a line was read as this item
pub record IsItemRead (names : Names) (k : ℕ) (item : Item) : Type 0 where
  pub whole : IsWholeLine (item_text names k item)
  pub asks : AsksSo names k item

abbrev pub AreItemsRead : Names → ℕ → List Item → Type 0
AreItemsRead names k [] = ⊤
AreItemsRead names k (i ∷ is) = IsItemRead names k i × AreItemsRead names (k + length (said_in i)) is

-- items were read, whose entries are new in the history
pub record Replays (names : Names) (left later : Option Bytes) (h h' : List Entry) (items : List Item) : Type 0 where
  pub read : left ≡ with_front (items_text names 0 items) later
  pub entered : h' ≡ h ++ map entry_said (saids_of items)
  pub plain : All IsItem items
  pub told : AreItemsRead names 0 items

-- a line behind k entries is an item of this kind
pub record IsItemLine (kind : Kind) (names : Names) (k : ℕ) (line : Text) (h h' : List Entry) : Type 0 where
  pub item : Item
  pub kind_is : kind ≡ kind_of item
  pub spelled : line ≡ item_text names k item
  pub entered : h' ≡ h ++ map entry_said (said_in item)
  pub plain : IsItem item
  pub asks : AsksSo names k item

-- a line behind k entries is none of a journal there, nor begins one
pub record IsNoItem (names : Names) (k : ℕ) (line : Text) : Type 0 where
  pub asks : AsksNothing names (k + 1) line
  pub no_count : line ≢ count_text k
  pub whole : IsCutShort line → ⊥
  pub begins : BeginsJournal line → ⊥

-- what ended a journal behind k entries
abbrev pub EndsSo : Ending → Names → ℕ → Option Bytes → Option Bytes → List Entry → List Entry → Text → Text → Type 0
EndsSo endings.End names k left later h h' line right = IsLast [] left later × (h' ≡ h)
EndsSo endings.Next names k left later h h' line right =
    (left ≡ with_front line later) × IsWholeLine line × BeginsJournal line × (h' ≡ h) × (IsCutShort line → ⊥)
EndsSo endings.Cut names k left later h h' line right = IsLast line left later × (0 < length line) × (h' ≡ h)
EndsSo endings.Wrong names k left later h h' line right =
    (left ≡ with_front line later) × IsWrong names (k + 1) line right h h' × IsWholeLine line × (IsCutShort line → ⊥)
EndsSo endings.NoEntry names k left later h h' line right = (left ≡ with_front line later) × IsWholeLine line × IsNoItem names k line

-- a line behind k entries is an item more, or ends the journal
abbrev pub LineIs : Turn → Names → ℕ → Text → Text → List Entry → List Entry → Type 0
LineIs (turns.Item kind) names k line right h h' = IsItemLine kind names k line h h'
LineIs (turns.Ended endings.End) names k line right h h' = ⊥
LineIs (turns.Ended endings.Next) names k line right h h' = BeginsJournal line × (h' ≡ h) × (IsCutShort line → ⊥)
LineIs (turns.Ended endings.Cut) names k line right h h' = ⊥
LineIs (turns.Ended endings.Wrong) names k line right h h' = IsWrong names (k + 1) line right h h' × (IsCutShort line → ⊥)
LineIs (turns.Ended endings.NoEntry) names k line right h h' = IsNoItem names k line

-- what was read behind k entries is an item more, or ends the journal
abbrev pub TurnIs : Turn → Names → ℕ → Option Bytes → Option Bytes → List Entry → List Entry → Text → Text → Type 0
TurnIs (turns.Item kind) names k left later h h' line right =
    (left ≡ with_front line later) × IsItemLine kind names k line h h' × IsWholeLine line
TurnIs (turns.Ended ending) names k left later h h' line right = EndsSo ending names k left later h h' line right

-- items were read and their entries replayed, and then the journal ended
pub record HasReplayed (names : Names) (r : Replayed) (left later : Option Bytes) (h h' : List Entry) (line right : Text) : Type 0 where
  pub items : List Item
  pub mid : Option Bytes
  pub past : List Entry
  pub entries : r.entries ≡ length (saids_of items)
  pub lines : r.lines ≡ length items
  pub counted : r.is_counted ≡ ends_counted items
  pub replays : Replays names left mid h past items
  pub ends : EndsSo r.ending names r.entries mid later past h' line right

-- ---- which journals are read

-- no name of a constructor has a line feed
abbrev pub ArePlain : Names → Type 0
ArePlain names = (type constructor : ℕ) (name : Text) → name_of names type constructor ≡ Some name → IsPlain name

-- what a journal spells so that it can be read back
abbrev pub IsReadable : Names → Item → Type 0
IsReadable names (Told s) = IsCaller s.caller × IsSpelled names s.request
IsReadable names Counted = ⊤
IsReadable names (CutShort t) = IsPlain t

-- a line that ends a journal
pub record IsFirst (line : Text) : Type 0 where
  pub ended : IsWholeLine line
  pub begins : BeginsJournal line
  pub whole : IsCutShort line → ⊥

-- behind a journal there is nothing, or the first line of another and what is behind it
abbrev pub rest_text : Option (Text × Text) → Text
rest_text None = []
rest_text (Some p) = p.0 ++ p.1

abbrev pub IsRest : Option (Text × Text) → Type 0
IsRest None = ⊤
IsRest (Some p) = IsFirst p.0

-- a journal was read up to there
abbrev pub EndsAt : Option (Text × Text) → Ending → Text → Option Bytes → Type 0
EndsAt None ending line later = (ending ≡ endings.End) × (later ≡ Some [])
EndsAt (Some p) ending line later = (ending ≡ endings.Next) × (line ≡ p.0) × (later ≡ Some p.1)

-- an entry is as it is said, but perhaps for a reply that is spelled alike
pub record IsAlike (names : Names) (e : Entry) (s : Said) : Type 0 where
  pub asked : e ≡ entry_of s.request e.reply
  pub told : reply_text names e.reply ≡ reply_text names s.reply

-- each item was read, and what is behind them ended the journal
pub record HasReadAll (names : Names) (r : Replayed) (items : List Item) (rest : Option (Text × Text)) (later : Option Bytes) (h h' : List Entry)
    (line : Text) : Type 0 where
  pub entries : List Entry
  pub alike : AllZip (IsAlike names) entries (saids_of items)
  pub entered : h' ≡ h ++ entries
  pub count : r.entries ≡ length (saids_of items)
  pub lines : r.lines ≡ length items
  pub counted : r.is_counted ≡ ends_counted items
  pub ended : EndsAt rest r.ending line later

-- each item was read up to an entry whose reply isn't the one that was answered
pub record HasFoundWrong (names : Names) (r : Replayed) (items : List Item) (h h' : List Entry) (line right : Text) : Type 0 where
  pub before : List Item
  pub said : Said
  pub behind : List Item
  pub items_are : items ≡ before ++ Told said ∷ behind
  pub entries : List Entry
  pub alike : AllZip (IsAlike names) entries (saids_of before)
  pub answered : Reply
  pub entered : h' ≡ (h ++ entries) ++ entry_of said.request answered ∷ []
  pub lines : r.lines ≡ length before
  pub ended : r.ending ≡ endings.Wrong
  pub written : line ≡ said_line names (length (saids_of before) + 1) said
  pub spelled : right ≡ line_of names said.caller (length (saids_of before) + 1) (entry_of said.request answered)
  pub differs : line ≢ right

-- A journal that can be read back is read as it is spelled: the replies that are answered to its requests alone say how far.
abbrev pub ReadsBack : Names → Replayed → Option Bytes → Option Bytes → List Entry → List Entry → Text → Text → Type 0
ReadsBack names r left later h h' line right =
    ArePlain names → (items : List Item) (rest : Option (Text × Text)) → All (IsReadable names) items → IsRest rest
    → left ≡ Some (items_text names 0 items ++ rest_text rest)
    → HasReadAll names r items rest later h h' line ⊎ HasFoundWrong names r items h h' line right
