-- Further instants of worlds, and what stops them.
use Rattle.std.specs.Prelude.{◌≡◌, ℕ, List, ◌∷◌, Some}
use Rattle.lus_values.specs.Values.{Row}
use Rattle.lus_program.specs.Programs.{Program, node_at}
use Rattle.lus_streams.specs.Streams.{Instant, World, Streams}
use Rattle.lus_attempts.specs.Attempts.{Tries}
use Rattle.lus_worlds.specs.declared.moment.Fault.{Fault}
use Rattle.lus_worlds.specs.declared.moment.Moment.{Moment}
use Rattle.lus_worlds.specs.declared.world.Stop.{Stop}
use Rattle.lus_worlds.specs.declared.world.Stop.TheVariants as stops
use Rattle.lus_worlds.specs.Existing.{AreGiven}
use Rattle.lus_worlds.specs.Moments.{fault_in, instant_of, KeepsBehind, NamesFault}

-- node f with these further inputs, behind what is kept
module _ (p : Program) (f : ℕ) (given : Row) (old : Moment) where
  -- the streams for the inputs so far and these are those so far with this instant, and it is kept of them
  abbrev pub IsFurther : Moment → Type 0
  IsFurther m =
      (lineage : List Row) (past : World) → Streams p f lineage past → KeepsBehind p old f past
      → Streams p f (given ∷ lineage) (instant_of m ∷ past) × KeepsBehind p m f (instant_of m ∷ past)

  -- what a fault names is at fault in what the equations give for these inputs
  abbrev pub IsFaulty : Fault → Type 0
  IsFaulty t = (past : World) → KeepsBehind p old f past → (now : Instant) × Tries p f given now past × NamesFault p t f now past

  -- a part is at fault, or these aren't inputs of the node
  abbrev pub IsStopped : Stop → Type 0
  IsStopped (stops.Fault t) = IsFaulty t
  IsStopped stops.Presence = (past : World) → KeepsBehind p old f past → AreGiven (node_at p f) given → ⊥
  IsStopped stops.Memory = Unit {0}

  -- there are no streams for the inputs so far and these
  abbrev pub AreNoFurther : Type 0
  AreNoFurther = (lineage : List Row) (past further : World) → Streams p f lineage past → KeepsBehind p old f past → Streams p f (given ∷ lineage) further → ⊥

  abbrev pub HasNoFurther : Stop → Type 0
  HasNoFurther stops.Memory = Unit {0}
  HasNoFurther stop = AreNoFurther

-- the fault of an instant ends a world
abbrev pub Ends : Moment → Stop → Type 0
Ends m (stops.Fault t) = fault_in m ≡ Some t
Ends m stop = ⊥
