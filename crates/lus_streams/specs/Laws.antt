-- Laws of streams.
use Rattle.std.specs.Prelude.{◌≡◌, ℕ, Bool, List, ◌∷◌, take}
use Rattle.lus_values.specs.Lists.{Each}
use Rattle.lus_values.specs.Values.{Row}
use Rattle.lus_program.specs.Programs.{Program, node_at}
use Rattle.lus_streams.specs.OnClock.{ProgramOnClocks}
use Rattle.lus_streams.specs.Streams.{Instant, World, row_of, Satisfies, Streams}
use Rattle.lus_streams.specs.Throughout.{Throughout}
use Rattle.lus_streams.specs.Order.{IsCausal}
use Rattle.lus_streams.specs.Flags.{IsNilFree, AreFlagsOf, FlagsHold, CallsHaveOutputs}

-- for each node and each list of inputs there is at most one world, called worlds included
abbrev pub StreamsAreUnique : Program → Type 0
StreamsAreUnique p = (f : ℕ) (inputs : List Row) (w w' : World) → Streams p f inputs w → Streams p f inputs w' → w ≡ w'

abbrev pub CausalStreamsAreUnique : Type 0
CausalStreamsAreUnique = (p : Program) → IsCausal p → ProgramOnClocks p → StreamsAreUnique p

-- no input of node f has nil at an instant
abbrev pub HasNilFreeInputs : Program → ℕ → Instant → Type 0
HasNilFreeInputs p f i = Each IsNilFree (take (node_at p f).inputs (row_of i))

-- whatever flags meet the requirements of each node, in each world without nil in its inputs they hold at the newest
-- instant, and at the same instant of every node that it calls, directly or round; and so at each instant, since the past of
-- a world is one
abbrev pub FlagsHoldIn : Program → Type 0
FlagsHoldIn p =
    (flags : ℕ → ℕ → Bool) → ((f : ℕ) → AreFlagsOf (flags f) p (node_at p f))
    → (f : ℕ) (now : Instant) (past : World) → Satisfies p f (now ∷ past) → Each (HasNilFreeInputs p f) (now ∷ past)
    → Throughout p (λ g i before. FlagsHold p (flags g) i before (node_at p g)) now f past

abbrev pub FlagsHoldInWorlds : Type 0
FlagsHoldInWorlds = (p : Program) → IsCausal p → ProgramOnClocks p → Each (CallsHaveOutputs p) p.nodes → FlagsHoldIn p
