-- What a run of scripts is: histories of its instances, in which callers made their calls in order, and the text of the journals.
use Rattle.std.specs.Prelude.{◌≡◌, ◌↔◌, ◌<◌, ◌≤◌, ℕ, Bool, true, List, [], ◌∷◌, length, take, Option}
use Rattle.std.specs.List.{AllZip, list_all, sum_by}
use Rattle.lus_values.specs.Lists.{item}
use Rattle.lus_program.specs.Programs.{Program}
use Rattle.lus_requests.specs.declared.request.Entry.{Entry}
use Rattle.lus_callers.specs.HistorySpecs.Histories.{History}
use Rattle.lus_callers.specs.MachineSpecs.Acceptance.{Accepted}
use Rattle.lus_callers.specs.Fronts.{requests_of, requests_on}
use Rattle.lus_callers.specs.SharedSpecs.Knowledge.{kept}
use Rattle.lus_requests.specs.declared.call.Call.{Call}
use Rattle.lus_callers.specs.MachineSpecs.Constructors.{names_of}
use Rattle.lus_devices.specs.Devices.{Bytes, WritesBeginning, with_text}
use Rattle.lus_devices.specs.Journals.{Journal, journals_text}
use Rattle.lus_host.specs.ScriptRefusals.{AreScripts}
use Rattle.lus_scripts.specs.Scripts.{Instance, Scripts}

-- a front of a caller's calls was made: on each instance, the caller's entries have the requests of the front's calls on it, and
-- its share are as many
pub record IsServed (calls : List Call) (caller : ℕ) (histories : List (List Entry)) (shares : List ℕ) (whole : Bool) : Type 0 where
  pub front : ℕ
  pub within : front ≤ length calls
  pub is_whole : (whole ≡ true) ↔ (front ≡ length calls)
  pub made : (i : ℕ) → i < length histories → requests_of (kept (item [] histories i) caller) ≡ requests_on i (take front calls)
  pub share : (i : ℕ) → i < length histories → item 0 shares i ≡ length (requests_on i (take front calls))

-- a history of each instance's node, with a front of each caller's calls, and as many entries as these; all is done where each front
-- is a whole script
pub record AreHistories (p : Program) (s : Scripts) (done : Bool) (histories : List (List Entry)) : Type 0 where
  pub legal : AllZip (λ i h. History p i.place h) s.instances histories
  pub whole : List Bool
  pub count : length whole ≡ length s.calls
  pub shares : List (List ℕ)
  pub shared : length shares ≡ length s.calls
  pub served : (c : ℕ) → c < length s.calls → IsServed (item [] s.calls c) c histories (item [] shares c) (item true whole c)
  pub entries : (i : ℕ) → i < length histories → sum_by (λ s. item 0 s i) shares ≡ length (item [] histories i)
  pub all : done ≡ list_all (λ w. w) whole

-- each instance's history, with its names
abbrev pub journals_of : List Instance → List (List Entry) → List Journal
journals_of [] hs = []
journals_of (i ∷ is) [] = []
journals_of (i ∷ is) (h ∷ hs) = record { instance = i.name; node = i.node; entries = h } ∷ journals_of is hs

abbrev pub run_text : Program → Scripts → List (List Entry) → Bytes
run_text p s histories = journals_text (names_of p) s.callers (journals_of s.instances histories)

-- the bytes are scripts of the program, which may give these histories
pub record IsAnswered (p : Program) (bytes : Bytes) (s : Scripts) (done : Bool) (histories : List (List Entry)) : Type 0 where
  pub read : AreScripts p bytes s
  pub legal : AreHistories p s done histories

-- the text is accepted, the bytes are scripts of its program, and this is the text of histories that the scripts may give
pub record Ran (text bytes : Bytes) (done : Bool) (journal : Bytes) : Type 0 where
  pub program : Program
  pub accepted : Accepted text program
  pub scripts : Scripts
  pub read : AreScripts program bytes scripts
  pub histories : List (List Entry)
  pub legal : AreHistories program scripts done histories
  pub text_is : journal ≡ run_text program scripts histories

-- the text of a run was written
abbrev pub WritesRun : Bytes → Bytes → Bool → Option Bytes → Option Bytes → Type 0
WritesRun text bytes done old new = (journal : Bytes) × Ran text bytes done journal × (new ≡ with_text old journal)

-- a beginning of the text of a run was written
abbrev pub BeginsRun : Bytes → Bytes → Option Bytes → Option Bytes → Type 0
BeginsRun text bytes old new = (done : Bool) × (journal : Bytes) × Ran text bytes done journal × WritesBeginning old new journal
