-- Why the requests of an instance were refused.
use Rattle.std.specs.Prelude.{◌≡◌, ◌⊎◌, ◌++◌, ◌+◌, ◌-◌, ◌^◌, ℕ, Bool, min, List, [], ◌∷◌, codes, string_bytes}
use Rattle.std.specs.Fmt.{decimal}
use Rattle.lus_values.specs.Names.{Names, Text}
use Rattle.lus_values.specs.Text.{Begins}
use Rattle.lus_values.specs.Values.{Row}
use Rattle.lus_program.specs.Programs.{Program}
use Rattle.lus_requests.specs.declared.request.Request.{Request}
use Rattle.lus_requests.specs.declared.request.Request.TheVariants.{Step, Burst}
use Rattle.lus_requests.specs.declared.request.Reply.{Reply}
use Rattle.lus_requests.specs.declared.request.Reply.TheVariants.{Outputs, Rows, Done, Refused}
use Rattle.lus_requests.specs.declared.request.Entry.{Entry}
use Rattle.lus_requests.specs.declared.request.Why.{Why}
use Rattle.lus_requests.specs.declared.request.Why.TheVariants.{Shape, Presence, Fault, NoSave}
use Rattle.lus_simulation.specs.Lineages.{Lineage}
use Rattle.lus_history.specs.Histories.{History, Right}
use Rattle.lus_history.specs.Pasts.{lineage}
use Rattle.lus_worlds.specs.declared.moment.Fault.{Fault as NamedFault}
use Rattle.lus_windows.specs.declared.reasons.Explainer.{Explainer}
use Rattle.lus_windows.specs.declared.reasons.Reasons.{Reasons}
use Rattle.lus_windows.specs.Finding.{FaultsAt, NoneRefused}
use Rattle.lus_windows.specs.Windows.{HasFollowed, have_slots}
use Rattle.lus_windows.specs.Words.{SaysFault}

-- the rows of a request for instants
abbrev pub rows_in : Request → List Row
rows_in (Step i) = i ∷ []
rows_in (Burst rows) = rows
rows_in _ = []

-- a fault was appended behind further words
abbrev pub SaysBehind : Names → NamedFault → (old new : Text) → Type 0
SaysBehind names t old new = (mid : Text) × Begins old mid × SaysFault names t mid new

-- the instance, the line in the file and a word for what the refusal is for were appended
abbrev pub HasHead : Text → ℕ → (old new : Text) → Type 0
HasHead instance number old new = (word : Text) × (new ≡ old ++ instance ++ codes " line " ++ decimal number ++ codes " refused " ++ word ++ codes ": ")

module _ (p : Program) (f : ℕ) (names : Names) where
  -- a fault of one of these rows behind a lineage was appended
  pub record TellsFault (l : Lineage) (rows : List Row) (old new : Text) : Type 0 where
    pub row : ℕ
    pub fault : NamedFault
    pub faults : FaultsAt p f l rows fault row
    pub says : SaysBehind names fault old new

  -- or that it can't be told, which is so only where none is refused for a fault
  abbrev pub SaysRows : Bool → Lineage → List Row → (old new : Text) → Type 0
  SaysRows sure l rows old new = TellsFault l rows old new ⊎ ((new ≡ old ++ codes "which operation has no value can't be told") × NoneRefused sure p f l rows)

  -- why a request was refused behind a lineage: where it was for a fault, that fault
  abbrev pub SaysRefused : Bool → Lineage → Request → Why → (old new : Text) → Type 0
  SaysRefused sure l request Fault old new = SaysRows sure l (rows_in request) old new
  SaysRefused sure l request Shape old new = Begins old new
  SaysRefused sure l request Presence old new = Begins old new
  SaysRefused sure l request NoSave old new = Begins old new

  -- a line was appended: which instance's request was refused on which line of the file, and why
  pub record SaysLine (instance : Text) (number : ℕ) (sure : Bool) (l : Lineage) (request : Request) (why : Why) (old new : Text) : Type 0 where
    pub head : Text
    pub reason : Text
    pub headed : HasHead instance number old head
    pub says : SaysRefused sure l request why head reason
    pub ended : new ≡ reason ++ codes "\n"

  -- and nothing where it wasn't refused
  abbrev pub TellsEntry : (instance : Text) (number : ℕ) → Bool → Lineage → Request → Reply → (old new : Text) → Type 0
  TellsEntry instance number sure l request (Refused why) old new = SaysLine instance number sure l request why old new
  TellsEntry instance number sure l request (Outputs o) old new = new ≡ old
  TellsEntry instance number sure l request (Rows os) old new = new ≡ old
  TellsEntry instance number sure l request Done old new = new ≡ old

-- the number of the next line, as far as such numbers go
abbrev pub next_line : ℕ → ℕ
next_line number = min (number + 1) (2 ^ 64 - 1)

-- The reasons of an instance's entries, a line for each that was refused, in their order. A line of the file before the first entry has
-- a number, and the last line that was read has one.
pub data Tells (p : Program) (f : ℕ) (names : Names) (instance : Text) (first : ℕ) : List Entry → ℕ → Text → Type 0 where
  begins : Tells p f names instance first [] first []
  passes : (h : List Entry) (number : ℕ) (text : Text) → Tells p f names instance first h number text → Tells p f names instance first h (next_line number) text
  notes : (h : List Entry) (e : Entry) (number : ℕ) (text new : Text) → Tells p f names instance first h number text
      → TellsEntry p f names instance (next_line number) (have_slots h) (lineage h) e.request e.reply text new
      → Tells p f names instance first (h ++ e ∷ []) (next_line number) new

-- what these entries of an instance of this name leave was followed
pub record Explains (p : Program) (f : ℕ) (instance : Text) (h : List Entry) (e : Explainer) : Type 0 where
  pub followed : HasFollowed p f h e.window
  pub named : string_bytes e.instance ≡ instance

-- its next entry, on the line of this number, was told and followed
pub record ExplainsNext (p : Program) (f : ℕ) (names : Names) (instance : Text) (number : ℕ) (h : List Entry) (e : Entry) (old new : Text)
    (x : Explainer) : Type 0 where
  pub explains : Explains p f instance (h ++ e ∷ []) x
  pub tells : TellsEntry p f names instance number (have_slots h) (lineage h) e.request e.reply old new

-- what these entries leave was followed, and their reasons were told
pub record HasNoted (p : Program) (f : ℕ) (names : Names) (instance : Text) (first : ℕ) (h : List Entry) (r : Reasons) : Type 0 where
  pub explains : Explains p f instance h r.explainer
  pub tells : Tells p f names instance first h r.line (string_bytes r.text)

-- where a request is rightly refused for a fault behind a history, the fault is told
abbrev pub FaultsAreTold : Type 0
FaultsAreTold =
    (p : Program) (f : ℕ) (names : Names) (h : List Entry) (request : Request) (old new : Text) → History p f h → Right p f h request (Refused Fault)
    → SaysRows p f names (have_slots h) (lineage h) (rows_in request) old new → TellsFault p f names (lineage h) (rows_in request) old new
