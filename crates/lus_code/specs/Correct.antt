-- Why what runs is right: what holds of a program's code, from the nodes of its source up to what their instances answer.
use Rattle.std.specs.Prelude.{◌≡◌, ℕ, [], length, IsTrue, Some}
use Rattle.lus_values.specs.Values.{Row}
use Rattle.lus_program.specs.Programs.{Program, node_at}
use Rattle.lus_classes.specs.Passing.{PassGiven}
use Rattle.lus_classes.specs.States.{State, WithinDepth, fresh}
use Rattle.lus_classes.specs.Steps.{step}
use Rattle.lus_simulation.specs.Checked.{IsChecked}
use Rattle.lus_simulation.specs.Fitting.{has_shape, has_presence}
use Rattle.lus_simulation.specs.Lineages.{HasLived, outputs_of}
use Rattle.lus_simulation.specs.LineageLaws.{FaultsAreExact, StepsTo}
use Rattle.lus_simulation.specs.Nesting.{depth_of}
use Rattle.lus_orders.specs.Classes.{AreFramed}
use Rattle.lus_emission.specs.Made.{AreWithin, HaveCode}
use Rattle.lus_emission.specs.Sources.{CanAllBeEmitted}
use Rattle.lus_cells.specs.Cells.{AreStateCells}
use Rattle.lus_code.specs.Codes.{IsCodeOf, ProgramCode, plain_classes, program_of}

-- a step of a state that has lived through a lineage, with inputs that fit, gives the outputs of the streams for both
abbrev pub StepsGiveStreams : Program → ProgramCode → Type 0
StepsGiveStreams p c =
    (s after : State) (f : ℕ) (i r : Row) → IsTrue (has_shape p f i) → IsTrue (has_presence p f i) → step (plain_classes c) s f i ≡ Some (r, after)
    → StepsTo p (plain_classes c) s after f i (outputs_of (node_at p f) r)

pub record IsCorrect (c : ProgramCode) : Type 0 where
  -- the program is checked,
  pub checked : IsChecked (program_of c)
  -- and each of its nodes has a class, which belongs to the node in a normal form of the program,
  pub size : length c.classes ≡ length (program_of c).nodes
  pub belong : IsCodeOf (program_of c) (plain_classes c)
  -- makes each step once what it reads is known, and passes what is on the clocks of the classes that it calls.
  pub ready : CanAllBeEmitted c.classes
  pub passing : PassGiven c.classes
  -- Calls are nested.
  pub nested : (f : ℕ) → WithinDepth (plain_classes c) (depth_of (program_of c)) f
  -- Each class has code, whose frames have room, which makes the class's instants,
  pub many : length c.emitted ≡ length c.classes
  pub framed : AreFramed c.emitted
  pub code : HaveCode c.classes c.emitted
  -- and has no more cells than the node's state cells.
  pub counted : AreStateCells (program_of c) c.cells
  pub within : AreWithin c.cells c.emitted
  -- What is kept represents the past: a fresh state has lived through nothing,
  pub starts : (f : ℕ) → HasLived (program_of c) (plain_classes c) (fresh (plain_classes c) (depth_of (program_of c)) f) f []
  -- a step gives the outputs of the source's streams, and leaves a state that has lived through them,
  pub gives : StepsGiveStreams (program_of c) c
  -- and it faults exactly where there are no streams
  pub faults : FaultsAreExact (program_of c) (plain_classes c)
