-- The state at the start stands for the world of no instants, and so does a state that is set back.
use Rattle.std.proofs.Common.{ℕ, zero, suc, Bool, true, List, [], ◌∷◌, map, refl}
use Rattle.lus_values.specs.Lists.{Each}
use Rattle.lus_values.specs.Values.{Value, nil}
use Rattle.lus_streams.specs.Clocks.{Clock}
use Rattle.lus_streams.specs.Streams.{World}
use Rattle.lus_streams.proofs.Lists.{each_implies}
use Rattle.lus_classes.specs.Classes.{Memory, Call, Class, class_at}
use Rattle.lus_classes.specs.States.{State, state, States, no_state, also_state, states_from, fresh, WithinDepth, reset, reset_all}
use Rattle.lus_classes.specs.StandsFor.{CellsStand, FlagsStand, StandsFor, StatesStand}
use Rattle.lus_classes.specs.Laws.{FreshStatesStand, ResetStatesStand}

cells_start : (ms : List Memory) → CellsStand ms (map (λ m. nil) ms) []
cells_start [] = tt
cells_start (m ∷ ms) = (refl, cells_start ms)

flags_start : (ks : List Clock) → FlagsStand ks (map (λ k. true) ks) []
flags_start [] = tt
flags_start (k ∷ ks) = (refl, flags_start ks)

states_start : (classes : List Class) (f : ℕ → State) (qs : List Call) (n : ℕ) → Each (λ q. StandsFor classes (f q.node) q.node []) qs
    → StatesStand classes (states_from f qs) qs n []
states_start classes f [] n h = tt
states_start classes f (q ∷ qs) n h = (h.0, states_start classes f qs (suc n) h.1)

pub fresh_stands : FreshStatesStand
fresh_stands classes zero g h = absurd h
fresh_stands classes (suc d) g h = (
  cells_start (class_at classes g).memories,
  flags_start (class_at classes g).firsts,
  states_start classes (fresh classes d) (class_at classes g).calls 0
      (each_implies (λ q. WithinDepth classes d q.node) (λ q. StandsFor classes (fresh classes d q.node) q.node []) (λ q k. fresh_stands classes d q.node k) (class_at classes g).calls h),
)

cells_reset : (ms : List Memory) (vs : List Value) (w : World) → CellsStand ms vs w → CellsStand ms (map (λ v. nil) vs) []
cells_reset [] vs w h = tt
cells_reset (m ∷ ms) [] w h = absurd h
cells_reset (m ∷ ms) (v ∷ vs) w h = (refl, cells_reset ms vs w h.1)

flags_reset : (ks : List Clock) (bs : List Bool) (w : World) → FlagsStand ks bs w → FlagsStand ks (map (λ b. true) bs) []
flags_reset [] bs w h = tt
flags_reset (k ∷ ks) [] w h = absurd h
flags_reset (k ∷ ks) (b ∷ bs) w h = (refl, flags_reset ks bs w h.1)

module _ (classes : List Class) where
  mutual
    state_reset : (s : State) (g : ℕ) (w : World) → StandsFor classes s g w → StandsFor classes (reset s) g []
    state_reset (state cells flags subs) g w h = (
      cells_reset (class_at classes g).memories cells w h.0,
      flags_reset (class_at classes g).firsts flags w h.1,
      states_reset subs (class_at classes g).calls 0 w h.2,
    )

    states_reset : (subs : States) (qs : List Call) (n : ℕ) (w : World) → StatesStand classes subs qs n w → StatesStand classes (reset_all subs) qs n []
    states_reset no_state [] n w h = tt
    states_reset no_state (q ∷ qs) n w h = absurd h
    states_reset (also_state s subs) [] n w h = absurd h
    states_reset (also_state s subs) (q ∷ qs) n w h = (state_reset s q.node _ h.0, states_reset subs qs (suc n) w h.1)

pub reset_stands : ResetStatesStand
reset_stands classes s g w h = state_reset classes s g w h
