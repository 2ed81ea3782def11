-- Instants of nodes that the code holds, and what is kept behind them.
use Rattle.std.specs.Prelude.{◌≡◌, ℕ, Bool, List, [], ◌∷◌, Option, None, Some, MatchOption}
use Rattle.std.specs.Option.{option_map}
use Rattle.lus_values.specs.Values.{Row}
use Rattle.lus_program.specs.Programs.{Program, node_at}
use Rattle.lus_program.specs.Resolved.{Resolved}
use Rattle.lus_streams.specs.Clocks.{Part}
use Rattle.lus_streams.specs.Equations.{node_parts, Site, sites}
use Rattle.lus_streams.specs.OnClock.{ProgramOnClocks}
use Rattle.lus_streams.specs.Streams.{Instant, instant, Called, nobody, also, World, called_instant, called_world, IsInstant}
use Rattle.lus_attempts.specs.Attempts.{IsAttempt, HasInputs, FaultAt}
use Rattle.lus_parts.specs.declared.part.Part.{Part as StoredPart}
use Rattle.lus_parts.specs.Parts.{part_of}
use Rattle.lus_reference.specs.Causes.{Operation, operation_in, IsCause}
use Rattle.lus_reference.specs.Kept.{Keeps}
use Rattle.lus_worlds.specs.declared.moment.Fault.{Fault}
use Rattle.lus_worlds.specs.declared.moment.Moment.{Moment, Moment', Row_of-Moment, end_of-Moment, more_of-Moment, out-Moment}

-- an instant and the instants of the called nodes
abbrev mutual
  pub instant_of : Moment → Instant
  instant_of (Moment' present row kept fault shape called) = instant present row (called_in called)

  pub called_in : {m : _} → Row_of-Moment m → Called
  called_in end_of-Moment = nobody
  called_in (more_of-Moment j rest) = also (instant_of j) (called_in rest)

abbrev pub called_of : List Moment → Called
called_of [] = nobody
called_of (j ∷ js) = also (instant_of j) (called_of js)

abbrev pub present_in : Moment → Bool
present_in m = (out-Moment m).present

abbrev pub kept_in : Moment → Row
kept_in m = (out-Moment m).kept

abbrev pub row_in : Moment → Row
row_in m = (out-Moment m).row

abbrev pub moments_in : Moment → List Moment
moments_in m = (out-Moment m).called.items

abbrev pub fault_in : Moment → Option Fault
fault_in m = (out-Moment m).fault

abbrev pub cause_in : Fault → Option Operation
cause_in t = option_map operation_in t.cause

-- what is kept of a node's parts, and of those of the nodes that it calls
mutual
  pub data Kept : Type 0 where
    kept_with : Row → AllKept → Kept

  pub data AllKept : Type 0 where
    nothing : AllKept
    further : Kept → AllKept → AllKept

abbrev mutual
  pub kept_of : Moment → Kept
  kept_of (Moment' present row kept fault shape called) = kept_with kept (all_kept called)

  pub all_kept : {m : _} → Row_of-Moment m → AllKept
  all_kept end_of-Moment = nothing
  all_kept (more_of-Moment j rest) = further (kept_of j) (all_kept rest)

abbrev pub kept_by : List Moment → AllKept
kept_by [] = nothing
kept_by (j ∷ js) = further (kept_of j) (kept_by js)

module _ (p : Program) where
  -- this is kept of a past of a node, and of those of the nodes that it calls
  abbrev mutual
    pub Holds : Kept → ℕ → World → Type 0
    Holds (kept_with kept called) f past = Keeps p past (node_parts p (node_at p f)) kept × AllHold called (sites p (node_at p f)) past

    pub AllHold : AllKept → List Site → World → Type 0
    AllHold nothing [] past = Unit {0}
    AllHold nothing (s ∷ ss) past = ⊥
    AllHold (further t ts) [] past = ⊥
    AllHold (further t ts) (s ∷ ss) past = Holds t s.node (called_world s.number past) × AllHold ts ss past

  abbrev pub KeepsBehind : Moment → ℕ → World → Type 0
  KeepsBehind m f past = Holds (kept_of m) f past

  abbrev pub EachKeeps : List Moment → List Site → World → Type 0
  EachKeeps [] [] past = Unit {0}
  EachKeeps [] (s ∷ ss) past = ⊥
  EachKeeps (j ∷ js) [] past = ⊥
  EachKeeps (j ∷ js) (s ∷ ss) past = KeepsBehind j s.node (called_world s.number past) × EachKeeps js ss past

  -- a part of the node that a way of calls leads to is this operation, which has no value on the values of its operands
  abbrev pub CauseAt : List ℕ → Operation → Part → Instant → World → Type 0
  CauseAt [] o e now past = IsCause p o e now past
  CauseAt (c ∷ way) o e now past = CauseAt way o e (called_instant c now) (called_world c past)

  abbrev pub CausedAt : Option Operation → List ℕ → Part → Instant → World → Type 0
  CausedAt o way e now past = MatchOption o (Unit {0}) (λ f. CauseAt way f e now past)

  -- a fault names a part that is at fault; its cause, where it has one, is the part's operation and its operands' values
  pub record NamesFault (t : Fault) (f : ℕ) (now : Instant) (past : World) : Type 0 where
    pub part : StoredPart
    pub at_fault : FaultAt p t.way.items (part_of part) f now past
    pub place : t.place ≡ part.expr.now.place
    pub cause : CausedAt (cause_in t) t.way.items (part_of part) now past

  -- what is said of an instant of node f after a past: the fault that is named, or that it is one of streams, where its inputs are
  -- there, and this is kept of the longer world
  abbrev pub IsSaid : Option Fault → Moment → ℕ → World → Type 0
  IsSaid None m f past = HasInputs p f (instant_of m) past → IsInstant p (instant_of m) f past × KeepsBehind m f (instant_of m ∷ past)
  IsSaid (Some t) m f past = NamesFault t f (instant_of m) past

  -- what the equations of node f give at an instant after a past, and what is said of it
  pub record IsNext (m : Moment) (f : ℕ) (past : World) : Type 0 where
    pub attempt : IsAttempt p (instant_of m) f past
    pub said : IsSaid (fault_in m) m f past

  -- each is the next of its call
  abbrev pub EachNext : List Moment → List Site → World → Type 0
  EachNext [] [] past = Unit {0}
  EachNext [] (s ∷ ss) past = ⊥
  EachNext (m ∷ ms) [] past = ⊥
  EachNext (m ∷ ms) (s ∷ ss) past = IsNext m s.node (called_world s.number past) × EachNext ms ss past

  -- behind what is kept of node f, an instant that its equations give is the next one, where each of these is the next of its call
  abbrev pub IsNextAmong : ℕ → List Moment → (old m : Moment) → Type 0
  IsNextAmong f ms old m =
      (past : World) → Resolved p → ProgramOnClocks p → KeepsBehind old f past → IsAttempt p (instant_of m) f past → EachNext ms (sites p (node_at p f)) past → IsNext m f past
