-- The code of one class: segments that give variables, make a call or stand for one, and then the stores.
use Rattle.std.specs.Prelude.{◌≡◌, ℕ, suc, ◌+◌, ◌<◌, ◌≤◌, ◌⊎◌, ◌++◌, nat_lt, Bool, true, false, List, [], ◌∷◌, length, map, take, drop, Option, Some, None, slice_get, option_map}
use Rattle.std.specs.Option.{MatchOption}
use Rattle.lus_values.specs.Lists.{Each}
use Rattle.lus_values.specs.Values.{Value, Row}
use Rattle.lus_classes.specs.Classes.{Step, answer, class_at, clock_in}
use Rattle.lus_classes.specs.Classes.{Class as PlainClass}
use Rattle.lus_classes.specs.ClassesOf.{InTurn}
use Rattle.lus_classes.specs.Steps.{Ask, cells_after, flags_after, is_on_row, run_steps, step}
use Rattle.lus_classes.specs.Played.{AreNew, GivenOnClocks, Unknown}
use Rattle.lus_instructions.specs.declared.instruction.Instruction.{Instruction}
use Rattle.lus_orders.specs.Looks.{looks}
use Rattle.lus_orders.specs.declared.order.Order.{Order}
use Rattle.lus_orders.specs.declared.order.Order.TheVariants as orders
use Rattle.lus_orders.specs.declared.class.Target.{Target}
use Rattle.lus_orders.specs.declared.class.Call.{Call}
use Rattle.lus_orders.specs.declared.class.Class.{Class}
use Rattle.lus_orders.specs.Orders.{Board, Calls, MakesNone, Next, exec}
use Rattle.lus_orders.specs.Classes.{Nests, begun, follows_class, part, passed}
use Rattle.lus_orders.specs.Made.{AreCallsOf, Begins, FitsClass, called_in, flags_in, read_of, state_in, width}

pub data Segment : Type 0 where
  gives : List Step → List Order → Segment
  calls : ℕ → List Target → Segment
  unfolds : ℕ → List Target → List Order → Segment

-- a variable that call n gives
abbrev pub taken : ℕ → Target → Step
taken n t = record { target = t.variable; code = answer n t.place }

-- the steps that segments make
abbrev pub steps_made : List Segment → List Step
steps_made [] = []
steps_made (gives ss code ∷ rest) = ss ++ steps_made rest
steps_made (calls n ts ∷ rest) = map (taken n) ts ++ steps_made rest
steps_made (unfolds n ts code ∷ rest) = map (taken n) ts ++ steps_made rest

-- their code, which stands with its last order first
abbrev pub code_made : List Segment → List Order
code_made [] = []
code_made (gives ss code ∷ rest) = code_made rest ++ code
code_made (calls n ts ∷ rest) = code_made rest ++ (orders.Call n ∷ [])
code_made (unfolds n ts code ∷ rest) = code_made rest ++ code

-- some segment makes call n
abbrev pub Making : ℕ → List Segment → Type 0
Making n [] = ⊥
Making n (gives ss code ∷ rest) = Making n rest
Making n (calls m ts ∷ rest) = (n ≡ m) ⊎ Making n rest
Making n (unfolds m ts code ∷ rest) = (n ≡ m) ⊎ Making n rest

abbrev pub AreOnce : List Segment → Type 0
AreOnce [] = Unit {0}
AreOnce (gives ss code ∷ rest) = AreOnce rest
AreOnce (calls m ts ∷ rest) = (Making m rest → ⊥) × AreOnce rest
AreOnce (unfolds m ts code ∷ rest) = (Making m rest → ⊥) × AreOnce rest

module _ (k : PlainClass) where
  abbrev pub wide : ℕ
  wide = length k.clocks

  -- a class's own cells: memories, then first-flags
  abbrev pub kept : ℕ
  kept = length k.memories + length k.firsts

  abbrev pub own_cells : List Value → List Value
  own_cells vs = take (length k.memories) vs

  abbrev pub own_flags : List Value → List Bool
  own_flags vs = flags_in (part (length k.memories) (length k.firsts) vs)

  -- variables were given, and cells are as they were
  pub record GivesRow (own : ℕ) (ran : Option Row) (ns : List Value) (end : Next) : Type 0 where
    pub new : Row
    pub ended : end ≡ Some (0, (ns, new))
    pub ran_to : ran ≡ Some (take wide new)
    pub long : length new ≡ own

  -- orders make steps, where the instructions among them that aren't located are these
  abbrev pub GivesSteps : List Instruction → ℕ → List Step → List Order → Type 0
  GivesSteps others own ss code =
      (vs : List Value) (given : List Ask) (calls : Calls) (known : ℕ → Bool) → AreNew ss known → (ns : List Value) (r : Row) → length r ≡ own
      → Unknown known (take wide r) → GivenOnClocks k (take wide r)
      → ((exec others vs calls code 0 (ns, r) ≡ None) × (run_steps k (own_cells vs) (own_flags vs) given ss (take wide r) ≡ None))
      ⊎ GivesRow own (run_steps k (own_cells vs) (own_flags vs) given ss (take wide r)) ns (exec others vs calls code 0 (ns, r))

  -- a target is one of the variables and given where its clock is present, and what it is given is one of so many
  pub record TargetOf (called : ℕ) (t : Target) : Type 0 where
    pub variable : t.variable < wide
    pub place : t.place < called
    pub test : (r : Row) → wide ≤ length r → looks t.test r ≡ is_on_row (clock_in k t.variable) (take wide r)

  -- a segment makes one of the calls
  pub record MakesCall (widths : ℕ → ℕ) (qs : List Call) (n : ℕ) (ts : List Target) : Type 0 where
    pub call : Call
    pub found : slice_get qs n ≡ Some call
    pub targets : call.targets.items ≡ ts
    pub each : Each (TargetOf (widths call.node)) ts
    pub some : 0 < length ts
    pub off : (r : Row) → wide ≤ length r → GivenOnClocks k (take wide r) → looks call.base r ≡ false
        → Each (λ t. is_on_row (clock_in k t.variable) (take wide r) ≡ false) ts

  -- orders leave the cells and the variables that are told, or there is no value
  pub record Leaves (own : ℕ) (told : Board) (end : Next) : Type 0 where
    pub row : Row
    pub ended : end ≡ Some (0, (told.0, row))
    pub same : take wide row ≡ take wide told.1
    pub long : length row ≡ own

  abbrev pub Does : ℕ → Option Board → Next → Type 0
  Does own told end = MatchOption told (end ≡ None) (λ u. Leaves own u end)

  -- on this board, orders do what a call does in some frame that begins with what is passed
  pub record DoesIn (own wide_called : ℕ) (c : Class) (q : Call) (vs ns : List Value) (r : Row) (end : Next) : Type 0 where
    pub frame : Row
    pub begins : Begins c.own wide_called (passed q.arguments.items r) frame
    pub does : Does own (called_in c q frame vs (ns, r)) end

  -- orders stand for a call of a class whose code makes no calls
  pub record StandsFor (classes : List Class) (others : List Instruction) (own cells wide_called : ℕ) (q : Call) (code : List Order) : Type 0 where
    pub class : Class
    pub found : slice_get classes q.node ≡ Some class
    pub flat : Each MakesNone class.code.items
    pub does : (vs : List Value) (calls : Calls) (ns : List Value) (r : Row) → length r ≡ own → length vs ≡ cells → length ns ≡ cells
        → DoesIn own wide_called class q vs ns r (exec others vs calls code 0 (ns, r))

  -- a segment is of a class that has so many own places and cells, and these calls
  abbrev pub IsSegment : List Class → List Instruction → (ℕ → ℕ) → List Call → (own cells : ℕ) → Segment → Type 0
  IsSegment classes others widths qs own cells (gives ss code) = GivesSteps others own ss code
  IsSegment classes others widths qs own cells (calls n ts) = MakesCall widths qs n ts
  IsSegment classes others widths qs own cells (unfolds n ts code) =
      (m : MakesCall widths qs n ts) × StandsFor classes others own cells (widths m.call.node) m.call code

  -- what is kept was stored: own cells are those after the instant, and the others and all variables as they were
  pub record Stored (vs ns : List Value) (r : Row) (end : Next) : Type 0 where
    pub next : List Value
    pub row : Row
    pub ended : end ≡ Some (0, (next, row))
    pub same : take wide row ≡ take wide r
    pub cells : own_cells next ≡ cells_after k.memories (own_cells vs) (take wide r)
    pub flags : own_flags next ≡ flags_after k.firsts (own_flags vs) (take wide r)
    pub behind : drop kept next ≡ drop kept ns
    pub long : length next ≡ length ns

  abbrev pub Stores : List Instruction → ℕ → List Order → Type 0
  Stores others own code =
      (vs : List Value) (calls : Calls) (ns : List Value) (r : Row) → length r ≡ own → length ns ≡ length vs → kept ≤ length vs → take kept ns ≡ take kept vs
      → Stored vs ns r (exec others vs calls code 0 (ns, r))

-- cells are laid out: so many are a class's own, and behind them stand those of its calls, which are apart
pub record AreLaidOut (first cells : ℕ) (qs : List Call) : Type 0 where
  pub own : first ≤ cells
  pub behind : Each (λ q. first ≤ q.cells) qs
  pub within : Each (λ q. q.cells + q.length ≤ cells) qs
  pub apart : (i j : ℕ) (p q : Call) → slice_get qs i ≡ Some p → slice_get qs j ≡ Some q → (i ≡ j → ⊥)
      → (p.cells + p.length ≤ q.cells) ⊎ (q.cells + q.length ≤ p.cells)

-- wherever its base is present, each call passes what fits the called class
abbrev pub PassWhatFits : List PlainClass → PlainClass → Class → Type 0
PassWhatFits plain k c =
    (n : ℕ) (q : Call) → slice_get c.calls.items n ≡ Some q → (r : Row) → length r ≡ c.own → GivenOnClocks k (take (wide k) r) → looks q.base r ≡ true
    → FitsClass plain q.node (passed q.arguments.items r)

-- code belongs to class k, among classes that have theirs
pub record IsCodeOf (plain : List PlainClass) (classes : List Class) (k : PlainClass) (c : Class) : Type 0 where
  -- the class reads what it has given, in so many places;
  pub turns : InTurn k k.steps (λ x. nat_lt x k.inputs)
  pub inputs : k.inputs ≤ wide k
  pub own : wide k ≤ c.own
  -- the code is made of segments, which make its steps and each of its calls once,
  pub segments : List Segment
  pub steps : steps_made segments ≡ k.steps
  pub make : Each (IsSegment k classes c.others.items (width plain classes) c.calls.items c.own c.cells) segments
  pub once : AreOnce segments
  pub every : (n : ℕ) → n < length c.calls.items → Making n segments
  -- and of stores behind them;
  pub stores : List Order
  pub keep : Stores k c.others.items c.own stores
  pub code : stores ++ code_made segments ≡ c.code.items
  -- its calls are those of the class, and have cells of their own.
  pub calls_are : AreCallsOf plain classes (FitsClass plain) c (wide k) c.calls.items k.calls
  pub passing : PassWhatFits plain k c
  pub laid : AreLaidOut (kept k) c.cells c.calls.items

-- code of classes makes their instants, with all that they call: what it leaves on the row and in the next cells is what a step answers
abbrev pub CodeMakesInstants : Type 0
CodeMakesInstants =
    (plain : List PlainClass) (classes : List Class) → ((g : ℕ) (c : Class) → slice_get classes g ≡ Some c → IsCodeOf plain classes (class_at plain g) c)
    → (d g : ℕ) (c : Class) → slice_get classes g ≡ Some c → Nests classes (suc d) g
    → (vs : List Value) (inputs : Row) → length vs ≡ c.cells → FitsClass plain g inputs
    → step plain (state_in plain classes (suc d) g vs) g inputs
    ≡ option_map (read_of plain classes (λ h us. state_in plain classes d h us) g) (follows_class classes d c vs (vs, begun c.own inputs))
