-- Laws of attempts.
use Rattle.std.specs.Prelude.{◌≡◌, ℕ, ◌<◌, true, List, ◌∷◌, length, take, is_some}
use Rattle.lus_values.specs.Lists.{Below}
use Rattle.lus_values.specs.Values.{Row}
use Rattle.lus_values.specs.declared.test.Test.{Test}
use Rattle.lus_program.specs.Programs.{Node, Operands, Program, node_at}
use Rattle.lus_streams.specs.Clocks.{Clock, clock_of, Part}
use Rattle.lus_streams.specs.OnClock.{IsDeclared, NamesFormals, ProgramOnClocks, test_of}
use Rattle.lus_streams.specs.Order.{IsCausal}
use Rattle.lus_streams.specs.Streams.{Instant, World, entry, is_present, row_of, holds, is_on, inputs_given, IsInstant, Streams}
use Rattle.lus_streams.specs.Throughout.{Throughout}
use Rattle.lus_attempts.specs.Attempts.{IsAttempt, HasNoFault, HasInputs, Tries, FaultAt}

-- an instant is an attempt at which no input is missing and nothing is at fault, in the called nodes either
pub record AreWithoutFault (p : Program) : Type 0 where
  pub attempts : (now : Instant) (f : ℕ) (past : World) → IsInstant p now f past → IsAttempt p now f past
  pub no_fault : (now : Instant) (f : ℕ) (past : World) → IsInstant p now f past → Throughout p (HasNoFault p) now f past
  pub has_inputs : (now : Instant) (f : ℕ) (past : World) → IsInstant p now f past → Throughout p (HasInputs p) now f past
  pub instants : (now : Instant) (f : ℕ) (past : World) → IsAttempt p now f past → Throughout p (HasNoFault p) now f past → Throughout p (HasInputs p) now f past → IsInstant p now f past

abbrev pub InstantsAreWithoutFault : Type 0
InstantsAreWithoutFault = (p : Program) → AreWithoutFault p

-- a clock is present exactly where its newest test holds, as a variable has an entry only where its clock is present
abbrev pub NewestTestDecides : Program → Type 0
NewestTestDecides p =
    (now : Instant) (f : ℕ) (past : World) → IsAttempt p now f past
    → (t : Test) → is_on (t ∷ clock_of (node_at p f) t.variable) now ≡ holds t.variable t.constructor now

abbrev pub NewestTestsDecide : Type 0
NewestTestsDecide = (p : Program) → NewestTestDecides p

-- after a past there is at most one attempt with a base and inputs
abbrev pub AttemptsAreUnique : Program → Type 0
AttemptsAreUnique p =
    (now now' : Instant) (f : ℕ) (past : World) → IsAttempt p now f past → IsAttempt p now' f past → is_present now ≡ is_present now'
    → take (node_at p f).inputs (row_of now) ≡ take (node_at p f).inputs (row_of now') → now ≡ now'

abbrev pub CausalAttemptsAreUnique : Type 0
CausalAttemptsAreUnique = (p : Program) → IsCausal p → ProgramOnClocks p → AttemptsAreUnique p

-- where something is at fault in an attempt after streams, there are no streams for the inputs so far and these
abbrev pub FaultsEnd : Program → Type 0
FaultsEnd p =
    (f : ℕ) (lineage : List Row) (past : World) (inputs : Row) (now : Instant) (way : List ℕ) (e : Part)
    → Streams p f lineage past → Tries p f inputs now past → FaultAt p way e f now past
    → (further : World) → Streams p f (inputs ∷ lineage) further → ⊥

abbrev pub FaultsEndStreams : Type 0
FaultsEndStreams = (p : Program) → IsCausal p → ProgramOnClocks p → FaultsEnd p

-- an instant of a node that is on clocks has an input only where its clock is present, where what a call passes is its base and its
-- inputs: a clock of the formals is present exactly where the same tests on the arguments are, after the call's base
abbrev pub ArgumentsFitFormals : Type 0
ArgumentsFitFormals =
    (p : Program) (g : Node) (args : Operands) (base : Clock) (now : Instant) (past : World) (j : Instant) → is_present j ≡ is_on base now → take g.inputs (row_of j) ≡ inputs_given p args g args base 0 now past
    → Below (length g.variables) (λ x. IsDeclared g x (test_of g x)) → ((x : ℕ) → x < g.inputs → x < length g.variables) → NamesFormals g args
    → (x : ℕ) → x < g.inputs → is_some (entry j x) ≡ true → is_on (clock_of g x) j ≡ true
