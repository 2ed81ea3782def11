-- The states that cells are, and code that makes the instants of classes.
use Rattle.std.specs.Prelude.{◌≡◌, ℕ, zero, suc, ◌+◌, ◌≤◌, ◌⊎◌, Bool, true, false, List, [], ◌∷◌, length, map, take, Option, Some, None, slice_get, option_map, if◌then◌else◌}
use Rattle.std.specs.Option.{IfSome, option_and_then}
use Rattle.lus_values.specs.Lists.{item, Each}
use Rattle.lus_values.specs.Values.{Value, Row}
use Rattle.lus_classes.specs.Classes.{call_reads, class_at}
use Rattle.lus_classes.specs.Classes.{Call as PlainCall, Class as PlainClass}
use Rattle.lus_classes.specs.States.{State, state, States, no_state, also_state}
use Rattle.lus_classes.specs.Steps.{Ask, asks, instant_of, is_on_row, silent, step}
use Rattle.lus_classes.specs.Steps.{passed as passes}
use Rattle.lus_classes.specs.Played.{GivenOnClocks}
use Rattle.lus_instructions.specs.Words.{is_nil_entry}
use Rattle.lus_orders.specs.Looks.{looks}
use Rattle.lus_orders.specs.declared.class.Call.{Call}
use Rattle.lus_orders.specs.declared.class.Class.{Class}
use Rattle.lus_orders.specs.Orders.{Board, Calls, MakesNone, after}
use Rattle.lus_orders.specs.Classes.{Nests, back, begun, bound, calls_of, follows_class, part, passed, replaced}

-- what a call's cells are as a state, where that of each node is known
abbrev pub StateOf : Type 0
StateOf = ℕ → List Value → State

abbrev pub states_with : StateOf → List Call → List Value → States
states_with f [] vs = no_state
states_with f (q ∷ qs) vs = also_state (f q.node (part q.cells q.length vs)) (states_with f qs vs)

-- a first-flag is a cell that is nil until there was an instant
abbrev pub flags_in : List Value → List Bool
flags_in vs = map (λ v. is_nil_entry (Some v)) vs

-- what asks answer depends on what calls read
abbrev pub AsksAgree : PlainClass → List Ask → Type 0
AsksAgree k given =
    (n : ℕ) (r t : Row) → Each (λ x. item None r x ≡ item None t x) (call_reads (slice_get k.calls n)) → item silent given n r ≡ item silent given n t

-- a row so long whose variables are inputs and then no entries; of the places behind them nothing is said
pub record Begins (own wide : ℕ) (inputs row : Row) : Type 0 where
  pub long : length row ≡ own
  pub same : take wide row ≡ take wide (begun own inputs)

-- what a call of a class does in a frame, where the class's code makes no calls
abbrev pub no_calls : Calls
no_calls n b = None

abbrev pub called_in : Class → Call → Row → List Value → Board → Option Board
called_in c q frame vs b =
    if looks q.base b.1
    then option_and_then {T = Board} (back q b) (after c.others.items (part q.cells q.length vs) no_calls c.code.items 0 (part q.cells q.length b.0, frame))
    else Some b

module _ (plain : List PlainClass) (classes : List Class) where
  abbrev pub width : ℕ → ℕ
  width g = length (class_at plain g).clocks

  abbrev pub memories : ℕ → ℕ
  memories g = length (class_at plain g).memories

  abbrev pub firsts : ℕ → ℕ
  firsts g = length (class_at plain g).firsts

  -- the cells of a node are its memories, its first-flags, and then those of its calls
  abbrev pub state_with : StateOf → ℕ → List Value → State
  state_with f g vs = state (take (memories g) vs) (flags_in (part (memories g) (firsts g) vs)) (states_with f (calls_of classes g) vs)

  abbrev pub state_in : (depth : ℕ) → StateOf
  state_in zero g vs = state [] [] no_state
  state_in (suc d) g vs = state_with (λ h us. state_in d h us) g vs

  -- what a board says that is left behind an instant
  abbrev pub read_of : StateOf → ℕ → Board → Row × State
  read_of f g u = (take (width g) u.1, state_with f g u.0)

  -- what a call asks, from the cells of its caller
  abbrev pub given_asks : StateOf → ℕ → List Value → List Ask
  given_asks f g vs = asks plain (states_with f (calls_of classes g) vs) (class_at plain g).calls

  module _ (Given : ℕ → Row → Type 0) where
    -- a call was made, and answered: its cells are its next state, and its targets are given
    pub record CallMade (f : StateOf) (w : ℕ) (q : Call) (ask : Ask) (ns : List Value) (r : Row) (end : Option Board) : Type 0 where
      pub on : looks q.base r ≡ true
      pub answer : Row
      pub new : List Value
      pub long : length new ≡ q.length
      pub answers : ask (take w r) ≡ Some (take (width q.node) answer, f q.node new)
      pub ended : end ≡ option_map (λ t. (replaced q.cells q.length new ns, t)) (bound q.targets.items answer r)

    -- its base is absent: nothing was done
    pub record CallStays (f : StateOf) (w : ℕ) (q : Call) (ask : Ask) (vs ns : List Value) (r : Row) (end : Option Board) : Type 0 where
      pub off : looks q.base r ≡ false
      pub answers : ask (take w r) ≡ Some ([], f q.node (part q.cells q.length vs))
      pub ended : end ≡ Some (ns, r)

    -- it faults
    pub record CallFaults (w : ℕ) (ask : Ask) (r : Row) (end : Option Board) : Type 0 where
      pub answers : ask (take w r) ≡ None
      pub ended : end ≡ None

    -- a call was made, stays or faults
    abbrev pub AnswersAs : StateOf → ℕ → List Value → Call → Ask → List Value → Row → Option Board → Type 0
    AnswersAs f w vs q ask ns r end = CallMade f w q ask ns r end ⊎ CallStays f w q ask vs ns r end ⊎ CallFaults w ask r end

    -- its cells are as they were, and it passes what fits the called node
    abbrev pub CanAnswer : ℕ → List Value → Call → List Value → Row → Type 0
    CanAnswer w vs q ns r =
        (w ≤ length r) × (part q.cells q.length ns ≡ part q.cells q.length vs) × (looks q.base r ≡ true → Given q.node (passed q.arguments.items r))

    -- a call does what it asks, while its cells are as they were
    abbrev pub AnswersCall : StateOf → ℕ → List Value → Call → (Board → Option Board) → Ask → Type 0
    AnswersCall f w vs q call ask = (ns : List Value) (r : Row) → CanAnswer w vs q ns r → AnswersAs f w vs q ask ns r (call (ns, r))

    -- and so does one of a class whose code makes no calls in any frame that begins with what is passed
    abbrev pub AnswersIn : StateOf → ℕ → List Value → Call → Ask → Type 0
    AnswersIn f w vs q ask =
        (c : Class) (frame : Row) (ns : List Value) (r : Row) → slice_get classes q.node ≡ Some c → Each MakesNone c.code.items
        → Begins c.own (width q.node) (passed q.arguments.items r) frame → CanAnswer w vs q ns r
        → AnswersAs f w vs q ask ns r (called_in c q frame vs (ns, r))

    -- the calls of a class do what they ask
    abbrev pub AllAnswer : StateOf → ℕ → List Value → List Call → Calls → List Ask → Type 0
    AllAnswer f w vs qs calls given =
        (n : ℕ) (q : Call) → slice_get qs n ≡ Some q
        → AnswersCall f w vs q (calls n) (item silent given n) × AnswersIn f w vs q (item silent given n)

    -- an instant was made: the board says what it answers, and has as many cells as before
    pub record Makes (f : StateOf) (g : ℕ) (given : List Ask) (vs : List Value) (inputs : Row) (end : Option Board) : Type 0 where
      pub answers : instant_of (class_at plain g) (take (memories g) vs) (flags_in (part (memories g) (firsts g) vs)) given inputs
          ≡ option_map (read_of f g) end
      pub long : IfSome end (λ u. length u.0 ≡ length vs)

    -- the code of one class makes its instants, whatever its calls are that do what they ask
    abbrev pub Realises : ℕ → Class → Type 0
    Realises g c =
        (f : StateOf) (vs : List Value) (inputs row : Row) → length vs ≡ c.cells → Given g inputs → Begins c.own (width g) inputs row
        → (calls : Calls) (given : List Ask) → AsksAgree (class_at plain g) given → length given ≡ length c.calls.items
        → AllAnswer f (width g) vs c.calls.items calls given
        → Makes f g given vs inputs (after c.others.items vs calls c.code.items 0 (vs, row))

    -- a call of the code is one of the class
    pub record IsCallOf (c : Class) (w : ℕ) (q : Call) (p : PlainCall) : Type 0 where
      pub node : p.node ≡ q.node
      pub base : (r : Row) → w ≤ length r → looks q.base r ≡ is_on_row p.base (take w r)
      pub passing : (r : Row) → w ≤ length r → passed q.arguments.items r ≡ passes p.arguments (take w r)
      pub called : Class
      pub found : slice_get classes q.node ≡ Some called
      pub long : q.length ≡ called.cells
      pub cells : q.cells + q.length ≤ c.cells

    abbrev pub AreCallsOf : Class → ℕ → List Call → List PlainCall → Type 0
    AreCallsOf c w [] [] = Unit {0}
    AreCallsOf c w (q ∷ qs) (p ∷ ps) = IsCallOf c w q p × AreCallsOf c w qs ps
    AreCallsOf c w qs ps = ⊥

    pub record IsRealised (g : ℕ) (c : Class) : Type 0 where
      pub calls : AreCallsOf c (width g) c.calls.items (class_at plain g).calls
      pub realises : Realises g c

    abbrev pub AreRealised : Type 0
    AreRealised = (g : ℕ) (c : Class) → slice_get classes g ≡ Some c → IsRealised g c

-- inputs of a node, which stand on their clocks
abbrev pub FitsClass : List PlainClass → ℕ → Row → Type 0
FitsClass plain g i = (length i ≡ (class_at plain g).inputs) × GivenOnClocks (class_at plain g) i

-- code that makes the instants of each class alone makes them with all that is called: the row and the next state are those of a step
abbrev pub CodeMakesSteps : Type 0
CodeMakesSteps =
    (plain : List PlainClass) (classes : List Class) → AreRealised plain classes (FitsClass plain)
    → (d g : ℕ) (c : Class) → slice_get classes g ≡ Some c → Nests classes (suc d) g
    → (vs : List Value) (inputs : Row) → length vs ≡ c.cells → FitsClass plain g inputs
    → step plain (state_in plain classes (suc d) g vs) g inputs
    ≡ option_map (read_of plain classes (λ h us. state_in plain classes d h us) g) (follows_class classes d c vs (vs, begun c.own inputs))
