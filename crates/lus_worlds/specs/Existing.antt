-- Which base and inputs an instant of a node can have, and that there is an instant with them.
use Rattle.std.specs.Prelude.{◌≡◌, ◌<◌, ℕ, Bool, true, length, take, is_some}
use Rattle.lus_values.specs.Values.{Row}
use Rattle.lus_program.specs.Programs.{Node, Program, node_at}
use Rattle.lus_streams.specs.Clocks.{clock_of}
use Rattle.lus_streams.specs.Streams.{Instant, World, is_present, row_of, entry, is_on}
use Rattle.lus_attempts.specs.Attempts.{IsAttempt}
use Rattle.lus_worlds.specs.Following.{IsGiven}

-- an input has an entry only where its clock is present, at each instant with this base and these inputs
abbrev pub FitsClocks : Node → Bool → (given : Row) → Type 0
FitsClocks g present given =
    (now : Instant) → is_present now ≡ present → take g.inputs (row_of now) ≡ given → (x : ℕ) → x < g.inputs → is_some (entry now x) ≡ true → is_on (clock_of g x) now ≡ true

-- what the equations of node f give after a past, with this base and these inputs, faults or none
pub record HasAttempt (p : Program) (f : ℕ) (present : Bool) (given : Row) (past : World) : Type 0 where
  pub now : Instant
  pub attempt : IsAttempt p now f past
  pub base : is_present now ≡ present
  pub inputs : take (node_at p f).inputs (row_of now) ≡ given

-- inputs of a node: as many as it has, each there exactly where its clock is present, while the base is
pub record AreGiven (g : Node) (given : Row) : Type 0 where
  pub count : length given ≡ g.inputs
  pub there : (x : ℕ) → x < g.inputs → IsGiven true given g x
