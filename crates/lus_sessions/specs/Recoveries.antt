-- Where a run goes on in a journal, and what comes of it.
use Rattle.std.specs.Prelude.{◌≡◌, ◌<◌, ◌++◌, ℕ, List, [], ◌∷◌, length, map, take, drop, Option}
use Rattle.lus_values.specs.Names.{Names, Text}
use Rattle.lus_requests.specs.declared.request.Entry.{Entry}
use Rattle.lus_devices.specs.Devices.{Bytes, with_front}
use Rattle.lus_devices.specs.Journals.{Journal, caller_name, head_text}
use Rattle.lus_lines.specs.Lines.{IsLast}
use Rattle.lus_replay.specs.Replays.{Item, Told, Counted, CutShort, Replays, cut_mark, items_text, saids_of}
use Rattle.lus_replay.specs.declared.replaying.Ending.TheVariants as endings
use Rattle.lus_replay.specs.declared.replaying.Replayed.{Replayed}
use Rattle.lus_sessions.specs.declared.recovering.Start.{Start}
use Rattle.lus_sessions.specs.declared.recovering.Start.TheVariants as starts

-- the journal of an instance that is named like its node
abbrev pub journal_of : Text → List Entry → Journal
journal_of name h = record { instance = name; node = name; entries = h }

-- its first line
abbrev pub head_of : Text → Text
head_of name = head_text (journal_of name [])

-- ---- what is read

-- items and what a crash left of a line behind them are the rest of the journal, and the items' k entries are new in the history
pub record IsRead (names : Names) (k : ℕ) (tail : Bytes) (left : Option Bytes) (h h' : List Entry) : Type 0 where
  pub items : List Item
  pub mid : Option Bytes
  pub end : Option Bytes
  pub replays : Replays names left mid h h' items
  pub entries : k ≡ length (saids_of items)
  pub last : IsLast tail mid end

-- likewise of the whole journal, behind its first line
pub record IsReadWhole (names : Names) (name : Text) (k : ℕ) (tail : Bytes) (left : Option Bytes) (h h' : List Entry) : Type 0 where
  pub behind : Option Bytes
  pub first : left ≡ with_front (head_of name) behind
  pub rest : IsRead names k tail behind h h'

-- a run goes on behind what the journal has
abbrev pub HasRecovered : Start → Names → Text → Option Bytes → List Entry → List Entry → Type 0
HasRecovered (starts.Head n) names name left h h' = (end : Option Bytes) × IsLast (take n (head_of name)) left end × (h' ≡ h)
HasRecovered (starts.Line k) names name left h h' = IsReadWhole names name k [] left h h'
HasRecovered (starts.Cut k n) names name left h h' = (tail : Bytes) × (0 < length tail) × IsReadWhole names name k tail left h h'

-- ---- what is written

-- how many entries there are where a run goes on
abbrev pub entries_at : Start → ℕ
entries_at (starts.Head n) = 0
entries_at (starts.Line k) = k
entries_at (starts.Cut k n) = k

-- the rest of the first line, nothing, or the mark of a line that was cut short
abbrev pub start_text : Text → Start → Text
start_text name (starts.Head n) = drop n (head_of name)
start_text name (starts.Line k) = []
start_text name (starts.Cut k n) = cut_mark

-- ---- the journal that comes of both

-- what the journal has, of these items, and of this line where it was cut short
abbrev pub so_far : Names → Text → Start → List Item → Bytes → Text
so_far names name (starts.Head n) items tail = take n (head_of name)
so_far names name (starts.Line k) items tail = head_of name ++ items_text names 0 items
so_far names name (starts.Cut k n) items tail = head_of name ++ (items_text names 0 items ++ tail)

-- an entry by its caller's name
abbrev pub told : Text → Entry → Item
told caller e = Told (record { caller = caller_name (caller ∷ []) e.caller; request = e.request; reply = e.reply })

-- a caller's further entries, and how many there are of all
abbrev pub ended : Text → List Entry → List Item
ended caller es = map (told caller) es ++ Counted ∷ []

-- the items of the journal once these entries are written
abbrev pub joined : Text → Start → List Item → Bytes → List Entry → List Item
joined caller (starts.Head n) items tail es = ended caller es
joined caller (starts.Line k) items tail es = items ++ ended caller es
joined caller (starts.Cut k n) items tail es = items ++ CutShort tail ∷ ended caller es

-- ---- inside

-- bytes alone begin a first line
abbrev pub BeginsHead : Start → Text → Bytes → Type 0
BeginsHead (starts.Head n) first bytes = bytes ≡ take n first
BeginsHead (starts.Line k) first bytes = ⊥
BeginsHead (starts.Cut k n) first bytes = ⊥

-- a run goes on behind what was replayed
abbrev pub StartsAt : Start → Replayed → Type 0
StartsAt (starts.Head n) r = ⊥
StartsAt (starts.Line k) r = (k ≡ r.entries) × (r.ending ≡ endings.End)
StartsAt (starts.Cut k n) r = (k ≡ r.entries) × (r.ending ≡ endings.Cut)
