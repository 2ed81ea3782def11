-- Entries that are picked of the instants of a node and of those that it calls.
use Rattle.std.specs.Prelude.{◌≡◌, ◌++◌, ℕ, Bool, List, [], ◌∷◌, map, Option, IsSome, IsTrue, IsFalse}
use Rattle.lus_values.specs.Values.{Value, Row}
use Rattle.lus_program.specs.Programs.{Program}
use Rattle.lus_requests.specs.declared.request.Request.{Request}
use Rattle.lus_requests.specs.declared.request.Request.TheVariants.{Step, Burst}
use Rattle.lus_requests.specs.declared.request.Reply.{Reply}
use Rattle.lus_requests.specs.declared.request.Reply.TheVariants.{Outputs, Rows}
use Rattle.lus_requests.specs.declared.request.Entry.{Entry}
use Rattle.lus_streams.specs.Streams.{Instant, World, Streams, entry, called_instant}
use Rattle.lus_simulation.specs.Lineages.{Lineage, HasNoStreams}
use Rattle.lus_history.specs.Pasts.{joined, lineage}
use Rattle.lus_worlds.specs.Finding.{IsReady}
use Rattle.lus_windows.specs.declared.picks.Pick.{Pick}
use Rattle.lus_windows.specs.declared.window.Reached.{Reached}
use Rattle.lus_windows.specs.declared.window.Window.{Window}
use Rattle.lus_windows.specs.Windows.{IsReached, HasFollowed, is_lost}

-- the instant of the called node that a way of calls leads to
abbrev pub instant_at : List ℕ → Instant → Instant
instant_at [] now = now
instant_at (c ∷ way) now = instant_at way (called_instant c now)

-- what a picked variable holds
abbrev pub picked_at : Instant → Pick → Option Value
picked_at now pick = entry (instant_at pick.way.items now) pick.variable

-- the rows that an entry has an instance live through
abbrev pub accepted : Request → Reply → List Row
accepted (Step i) (Outputs o) = i ∷ []
accepted (Burst rows) (Rows outputs) = rows
accepted _ _ = []

module _ (p : Program) (f : ℕ) where
  -- the picked entries of the last instant of the streams of node f for a lineage
  abbrev pub IsPicked : Lineage → List Pick → Row → Type 0
  IsPicked l picks row = (now : Instant) × (w : World) × Streams p f l (now ∷ w) × (row ≡ map (picked_at now) picks)

  -- those of the instant of each of these rows behind a lineage
  abbrev pub ArePicked : Lineage → List Row → List Pick → List Row → Type 0
  ArePicked l [] picks [] = Unit {0}
  ArePicked l (i ∷ rows) picks (row ∷ picked) = IsPicked (i ∷ l) picks row × ArePicked (i ∷ l) rows picks picked
  ArePicked l _ picks _ = ⊥

  -- there are no streams for these inputs behind what was reached
  abbrev pub IsOver : List (List ℕ) → Row → Reached → Type 0
  IsOver orders x old = (sure : Bool) (l : Lineage) → IsReady p orders f → IsReached sure p f l old → IsTrue sure → HasNoStreams p f (x ∷ l)

  -- what was reached goes on behind these rows, and unless it is lost the picked entries of their instants were appended
  pub record GoesOn (orders : List (List ℕ)) (rows : List Row) (picks : List Pick) (old new : Reached) (before after : List Row) : Type 0 where
    pub reached : (sure : Bool) (l : Lineage) → IsReady p orders f → IsReached sure p f l old → IsReached sure p f (joined rows l) new
    pub still : IsSome new.moment → IsSome old.moment
    pub picked : List Row
    pub appended : after ≡ before ++ picked
    pub are : IsSome new.moment → (sure : Bool) (l : Lineage) → IsReady p orders f → IsReached sure p f l old → ArePicked l rows picks picked

-- unless nothing is kept any more, the picked entries of each instant that an entry has were appended, whatever was followed before it
pub record AppendsPicked (p : Program) (old new : Window) (request : Request) (reply : Reply) (picks : List Pick) (before after : List Row) : Type 0 where
  pub picked : List Row
  pub appended : after ≡ before ++ picked
  pub are : IsFalse (is_lost new) → (f : ℕ) (h : List Entry) → HasFollowed p f h old → ArePicked p f (lineage h) (accepted request reply) picks picked
