-- What is so of every run, phrase by phrase.
use Rattle.std.specs.Prelude.{◌≡◌, ◌<◌, ◌⊎◌, ℕ, ⊤, Bool, true, List, [], ◌∷◌, ◌++◌, length}
use Rattle.std.specs.List.{AllZip, list_all, sum_by}
use Rattle.lus_values.specs.Lists.{item}
use Rattle.lus_values.specs.Values.{Row}
use Rattle.lus_program.specs.Programs.{Program}
use Rattle.lus_requests.specs.declared.request.Entry.{Entry}
use Rattle.lus_requests.specs.declared.request.Request.{Request}
use Rattle.lus_requests.specs.declared.request.Request.TheVariants.{Step, Reset, Save, Restore, Burst}
use Rattle.lus_requests.specs.declared.request.Reply.{Reply}
use Rattle.lus_requests.specs.declared.request.Reply.TheVariants.{Outputs, Rows, Refused}
use Rattle.lus_requests.specs.declared.request.Why.TheVariants.{Fault}
use Rattle.lus_callers.specs.CodeSpecs.SimulationSpecs.Lineages.{Lineage, Gives, HasNoStreams}
use Rattle.lus_callers.specs.HistorySpecs.Histories.{History}
use Rattle.lus_callers.specs.HistorySpecs.Pasts.{lineage}
use Rattle.lus_callers.specs.MachineSpecs.Acceptance.{Accepted}
use Rattle.lus_devices.specs.Devices.{Bytes}
use Rattle.lus_scripts.specs.Scripts.{Scripts}
use Rattle.lus_host.specs.Runs.{IsServed, run_text}
use Rattle.lus_host.specs.ScriptRefusals.{AreScripts}

-- each entry behind these, with those before it
abbrev pub EachAfter : (List Entry → Entry → Type 0) → List Entry → List Entry → Type 0
EachAfter P before [] = ⊤
EachAfter P before (e ∷ es) = P before e × EachAfter P (before ++ e ∷ []) es

-- ---- accepted instants: a step answered by outputs, and each row of a burst answered by rows

abbrev pub StepGives : Program → ℕ → Lineage → Row → Reply → Type 0
StepGives p f inputs i (Outputs o) = Gives p f (i ∷ inputs) o
StepGives p f inputs i _ = ⊤

abbrev pub RowsGive : Program → ℕ → Lineage → List Row → List Row → Type 0
RowsGive p f inputs [] [] = ⊤
RowsGive p f inputs (i ∷ rows) (o ∷ outputs) = Gives p f (i ∷ inputs) o × RowsGive p f (i ∷ inputs) rows outputs
RowsGive p f inputs _ _ = ⊥

abbrev pub BurstGives : Program → ℕ → Lineage → List Row → Reply → Type 0
BurstGives p f inputs rows (Rows outputs) = RowsGive p f inputs rows outputs
BurstGives p f inputs rows _ = ⊤

-- the outputs replied, if any, are the last instant of streams for the inputs so far and those of this instant
abbrev pub GivesLast : Program → ℕ → Lineage → Request → Reply → Type 0
GivesLast p f inputs (Step i) a = StepGives p f inputs i a
GivesLast p f inputs (Burst rows) a = BurstGives p f inputs rows a
GivesLast p f inputs Reset a = ⊤
GivesLast p f inputs (Save n) a = ⊤
GivesLast p f inputs (Restore n) a = ⊤

-- ---- faults

abbrev pub StepFaults : Program → ℕ → Lineage → Row → Reply → Type 0
StepFaults p f inputs i (Refused Fault) = HasNoStreams p f (i ∷ inputs)
StepFaults p f inputs i _ = ⊤

-- behind rows that have streams, one has none
abbrev pub RowHasNone : Program → ℕ → Lineage → List Row → Type 0
RowHasNone p f inputs [] = ⊥
RowHasNone p f inputs (i ∷ rows) = HasNoStreams p f (i ∷ inputs) ⊎ ((o : Row) × Gives p f (i ∷ inputs) o × RowHasNone p f (i ∷ inputs) rows)

abbrev pub BurstFaults : Program → ℕ → Lineage → List Row → Reply → Type 0
BurstFaults p f inputs rows (Refused Fault) = RowHasNone p f inputs rows
BurstFaults p f inputs rows _ = ⊤

-- where a fault is replied, there are no streams
abbrev pub FaultsRightly : Program → ℕ → Lineage → Request → Reply → Type 0
FaultsRightly p f inputs (Step i) a = StepFaults p f inputs i a
FaultsRightly p f inputs (Burst rows) a = BurstFaults p f inputs rows a
FaultsRightly p f inputs Reset a = ⊤
FaultsRightly p f inputs (Save n) a = ⊤
FaultsRightly p f inputs (Restore n) a = ⊤

-- ---- the run of a text, with the bytes of its scripts: whether all was done, and the text of its journals
pub record Headline (text bytes : Bytes) (done : Bool) (journals : Bytes) : Type 0 where
  -- for every accepted program,
  pub program : Program
  pub accepted : Accepted text program
  -- number of callers and calls,
  pub scripts : Scripts
  pub read : AreScripts program bytes scripts
  -- an instance's history is one reactive node's:
  pub histories : List (List Entry)
  pub history : AllZip (λ i h. History program i.place h) scripts.instances histories
  -- the outputs replied at each accepted instant are the last instant of the streams satisfying the source equations for the
  -- inputs accepted since reset, a restore going back to its save's;
  pub outputs : AllZip (λ i h. EachAfter (λ before e. GivesLast program i.place (lineage before) e.request e.reply) [] h) scripts.instances histories
  -- those streams are unique;
  pub unique : (f : ℕ) (inputs : Lineage) (o o' : Row) (one : Gives program f inputs o) (other : Gives program f inputs o') → one.world ≡ other.world
  -- a fault is replied only where none exist;
  pub faults : AllZip (λ i h. EachAfter (λ before e. FaultsRightly program i.place (lineage before) e.request e.reply) [] h) scripts.instances histories
  -- and the entries are as many as the callers' entered calls.
  pub shares : List (List ℕ)
  pub shared : length shares ≡ length scripts.calls
  pub entries : (i : ℕ) → i < length histories → sum_by (λ s. item 0 s i) shares ≡ length (item [] histories i)
  -- And of each caller a front of its calls is entered, in order: all of them, where all is done.
  pub whole : List Bool
  pub all : done ≡ list_all (λ w. w) whole
  pub count : length whole ≡ length scripts.calls
  pub entered : (c : ℕ) → c < length scripts.calls → IsServed (item [] scripts.calls c) c histories (item [] shares c) (item true whole c)
  -- What is written is the text of these histories.
  pub written : journals ≡ run_text program scripts histories
