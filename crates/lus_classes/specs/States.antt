-- States of classes: what is kept from one instant to the next.
use Rattle.std.specs.Prelude.{ℕ, zero, suc, Bool, true, List, [], ◌∷◌, map}
use Rattle.lus_values.specs.Lists.{Each}
use Rattle.lus_values.specs.Values.{Value, nil}
use Rattle.lus_classes.specs.Classes.{Call, Class, class_at}

-- the cells, the first-flags, and a state for each call
mutual
  pub data State : Type 0 where
    state : List Value → List Bool → States → State

  pub data States : Type 0 where
    no_state : States
    also_state : State → States → States

-- a state for each call, by the node that it calls
abbrev pub states_from : (ℕ → State) → List Call → States
states_from f [] = no_state
states_from f (q ∷ qs) = also_state (f q.node) (states_from f qs)

module _ (classes : List Class) where
  -- the state at the start of a node whose calls are nested within a depth: each cell is nil, each first-flag set
  abbrev pub fresh : (depth node : ℕ) → State
  fresh zero g = state [] [] no_state
  fresh (suc d) g =
      state (map (λ m. nil) (class_at classes g).memories) (map (λ k. true) (class_at classes g).firsts)
      (states_from (λ h. fresh d h) (class_at classes g).calls)

  -- the calls of a node are nested within a depth
  abbrev pub WithinDepth : (depth node : ℕ) → Type 0
  WithinDepth zero g = ⊥
  WithinDepth (suc d) g = Each (λ q. WithinDepth d q.node) (class_at classes g).calls

-- the state set back to the start, with those of its calls
abbrev mutual
  pub reset : State → State
  reset (state cells flags calls) = state (map (λ v. nil) cells) (map (λ b. true) flags) (reset_all calls)

  pub reset_all : States → States
  reset_all no_state = no_state
  reset_all (also_state s ss) = also_state (reset s) (reset_all ss)
