-- Which states stand for which worlds.
use Rattle.std.specs.Prelude.{◌≡◌, ℕ, suc, Bool, true, false, List, [], ◌∷◌, Some}
use Rattle.lus_values.specs.Values.{Value, nil}
use Rattle.lus_streams.specs.Clocks.{Clock}
use Rattle.lus_streams.specs.Streams.{World, row_of, called_world, at_last}
use Rattle.lus_classes.specs.Classes.{Memory, Call, Class, class_at}
use Rattle.lus_classes.specs.States.{State, state, States, no_state, also_state}
use Rattle.lus_classes.specs.Steps.{atom_in}

-- a clock was at no instant present
abbrev pub never_on : Clock → World → Bool
never_on k w = at_last k w true (λ i before. false)

-- each cell keeps what `pre` of its operand is at the next instant of its clock
abbrev pub CellsStand : List Memory → List Value → World → Type 0
CellsStand [] vs w = Unit {0}
CellsStand (m ∷ ms) [] w = ⊥
CellsStand (m ∷ ms) (v ∷ vs) w = (Some v ≡ at_last m.clock w (Some nil) (λ i before. atom_in m.operand (row_of i))) × CellsStand ms vs w

-- each first-flag tells whether the next instant of its clock is the first one
abbrev pub FlagsStand : List Clock → List Bool → World → Type 0
FlagsStand [] bs w = Unit {0}
FlagsStand (k ∷ ks) [] w = ⊥
FlagsStand (k ∷ ks) (b ∷ bs) w = (b ≡ never_on k w) × FlagsStand ks bs w

module _ (classes : List Class) where
  -- a state of node g stands for a world: its cells and flags do, and the state of each call for the called world
  abbrev mutual
    pub StandsFor : State → ℕ → World → Type 0
    StandsFor (state cells flags calls) g w =
        CellsStand (class_at classes g).memories cells w × FlagsStand (class_at classes g).firsts flags w
        × StatesStand calls (class_at classes g).calls 0 w

    pub StatesStand : States → List Call → ℕ → World → Type 0
    StatesStand no_state [] n w = Unit {0}
    StatesStand no_state (q ∷ qs) n w = ⊥
    StatesStand (also_state s ss) [] n w = ⊥
    StatesStand (also_state s ss) (q ∷ qs) n w = StandsFor s q.node (called_world n w) × StatesStand ss qs (suc n) w
