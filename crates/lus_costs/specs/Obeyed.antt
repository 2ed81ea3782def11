-- How many orders are obeyed while code is followed: one that is skipped isn't, nor is one behind an order that had no value.
use Rattle.std.specs.Prelude.{◌≡◌, ◌≤◌, ℕ, zero, suc, ◌+◌, List, [], ◌∷◌, Option, None, Some, slice_get, if◌then◌else◌}
use Rattle.lus_values.specs.Values.{Value, Row}
use Rattle.lus_instructions.specs.declared.instruction.Instruction.{Instruction}
use Rattle.lus_orders.specs.declared.class.Call.{Call}
use Rattle.lus_orders.specs.declared.class.Class.{Class}
use Rattle.lus_orders.specs.declared.order.Order.{Order}
use Rattle.lus_orders.specs.declared.order.Order.TheVariants as orders
use Rattle.lus_orders.specs.Classes.{Does, begun, called, follows, part, passed}
use Rattle.lus_orders.specs.Looks.{looks}
use Rattle.lus_orders.specs.Orders.{Board, Calls, Next, exec}

module _ (inside : ℕ → Board → ℕ) where
  -- one order, and with a call those inside it
  abbrev pub obeyed_for : Order → Board → ℕ
  obeyed_for (orders.Call n) b = inside n b + 1
  obeyed_for o b = 1

  -- of an order behind others: none where it is skipped, or where one of these had no value
  abbrev pub obeyed_behind : Order → Next → ℕ
  obeyed_behind o None = 0
  obeyed_behind o (Some (zero, b)) = obeyed_for o b
  obeyed_behind o (Some (suc k, b)) = 0

  -- of code, which stands with its last order first
  abbrev pub obeyed : List Instruction → List Value → Calls → List Order → ℕ → Board → ℕ
  obeyed others cells calls [] k b = 0
  obeyed others cells calls (o ∷ os) k b = obeyed others cells calls os k b + obeyed_behind o (exec others cells calls os k b)

-- how many orders the code of nodes obeys
abbrev pub Obeys : Type 0
Obeys = ℕ → List Value → List Value → Row → ℕ

-- those inside a call: none where its base is absent
abbrev pub obeyed_inside : Obeys → List Value → Board → Option Call → ℕ
obeyed_inside f vs b None = 0
obeyed_inside f vs b (Some q) =
    if looks q.base b.1 then f q.node (part q.cells q.length vs) (part q.cells q.length b.0) (passed q.arguments.items b.1) else 0

-- those of a class, where this is what its calls do and obey
abbrev pub obeyed_with : Does → Obeys → Class → List Value → Board → ℕ
obeyed_with does obeys c vs b =
    obeyed (λ n u. obeyed_inside obeys vs u (slice_get c.calls.items n)) c.others.items vs (called does c.calls.items vs) c.code.items 0 b

abbrev pub obeyed_from : Does → Obeys → Option Class → List Value → List Value → Row → ℕ
obeyed_from does obeys None vs ns i = 0
obeyed_from does obeys (Some c) vs ns i = obeyed_with does obeys c vs (ns, begun c.own i)

module _ (classes : List Class) where
  -- those of a node, whose calls are nested within a depth
  abbrev pub obeyed_within : (depth : ℕ) → Obeys
  obeyed_within zero g vs ns i = 0
  obeyed_within (suc d) g vs ns i =
      obeyed_from (λ h us ms j. follows classes d h us ms j) (λ h us ms j. obeyed_within d h us ms j) (slice_get classes g) vs ns i

  -- those that the code of a class obeys on a board, whose calls are nested within a depth
  abbrev pub obeyed_by : ℕ → Class → List Value → Board → ℕ
  obeyed_by d c vs b = obeyed_with (λ h us ms j. follows classes d h us ms j) (λ h us ms j. obeyed_within d h us ms j) c vs b

  -- no step of class g obeys more orders than that
  abbrev pub ObeysAtMost : ℕ → ℕ → Type 0
  ObeysAtMost g count = (d : ℕ) (c : Class) → slice_get classes g ≡ Some c → (vs : List Value) (b : Board) → obeyed_by d c vs b ≤ count
