-- Steps follow streams.
use Rattle.std.specs.Prelude.{◌≡◌, ℕ, ◌<◌, List, [], ◌∷◌, length, Some, None, is_some}
use Rattle.lus_values.specs.Lists.{item}
use Rattle.lus_values.specs.Values.{Row}
use Rattle.lus_program.specs.Programs.{Node, Program, node_at}
use Rattle.lus_streams.specs.Clocks.{clock_of}
use Rattle.lus_streams.specs.OnClock.{ProgramOnClocks}
use Rattle.lus_streams.specs.Order.{IsCausal}
use Rattle.lus_streams.specs.Streams.{Instant, World, row_of, Streams}
use Rattle.lus_classes.specs.Classes.{Class}
use Rattle.lus_classes.specs.States.{State, fresh, WithinDepth, reset}
use Rattle.lus_classes.specs.Steps.{is_on_row, step}
use Rattle.lus_classes.specs.StandsFor.{StandsFor}
use Rattle.lus_classes.specs.ClassesOf.{AreClassesOf}

-- row i has an entry for each input of f, present exactly where the input's clock is
pub record Fits (f : Node) (i : Row) : Type 0 where
  pub long : length i ≡ f.inputs
  pub presence : (x : ℕ) → x < f.inputs → is_some (item None i x) ≡ is_on_row (clock_of f x) i

-- after any streams of node g that state s stands for comes, where the inputs i fit, an instant with these inputs and the
-- row r, and state `after` stands for the world with it
pub record Extends (p : Program) (classes : List Class) (s after : State) (g : ℕ) (i r : Row) : Type 0 where
  pub by : (inputs : List Row) (w : World) → Streams p g inputs w → StandsFor classes s g w → Fits (node_at p g) i
      → (now : Instant) × (row_of now ≡ r) × Streams p g (i ∷ inputs) (now ∷ w) × StandsFor classes after g (now ∷ w)

-- after any streams of node g that state s stands for comes no instant with the inputs i: there are no streams for these
-- inputs at all
pub record Faults (p : Program) (classes : List Class) (s : State) (g : ℕ) (i : Row) : Type 0 where
  pub by : (inputs : List Row) (w further : World) → Streams p g inputs w → StandsFor classes s g w → Streams p g (i ∷ inputs) further → ⊥

-- a step that answers goes on from each world that its state stands for
abbrev pub StepsExtendWorlds : Type 0
StepsExtendWorlds =
    (p : Program) (classes : List Class) → AreClassesOf p classes
    → (s after : State) (g : ℕ) (i r : Row) → step classes s g i ≡ Some (r, after) → Extends p classes s after g i r

-- a step faults only where no world goes on
abbrev pub FaultsEndWorlds : Type 0
FaultsEndWorlds =
    (p : Program) (classes : List Class) → IsCausal p → ProgramOnClocks p → AreClassesOf p classes
    → (s : State) (g : ℕ) (i : Row) → step classes s g i ≡ None → Faults p classes s g i

-- a fresh state stands for the world of no instants
abbrev pub FreshStatesStand : Type 0
FreshStatesStand = (classes : List Class) (depth g : ℕ) → WithinDepth classes depth g → StandsFor classes (fresh classes depth g) g []

-- and so does a reset state
abbrev pub ResetStatesStand : Type 0
ResetStatesStand = (classes : List Class) (s : State) (g : ℕ) (w : World) → StandsFor classes s g w → StandsFor classes (reset s) g []
