-- Counted orders are bounds of those that are obeyed.
use Rattle.std.proofs.Common.{◌≡◌, ℕ, zero, suc, ◌≤◌, Bool, true, false, if◌then◌else◌, List, [], ◌∷◌, Option, None, Some, slice_get, sum_by, refl, arith}
use Rattle.std.proofs.lemmas.List.Sums.{sum_by-cons}
use Rattle.lus_values.specs.Values.{Value, Row}
use Rattle.lus_instructions.specs.declared.instruction.Instruction.{Instruction}
use Rattle.lus_orders.specs.declared.class.Call.{Call}
use Rattle.lus_orders.specs.declared.class.Class.{Class}
use Rattle.lus_orders.specs.declared.order.Order.{Order}
use Rattle.lus_orders.specs.declared.order.Order.TheVariants as orders
use Rattle.lus_orders.specs.Classes.{Does, begun, follows, part, passed}
use Rattle.lus_orders.specs.Looks.{looks}
use Rattle.lus_orders.specs.Orders.{Board, Calls, Next, exec}
use Rattle.lus_costs.specs.Costs.{AreCounts, class_orders, inside_call, order_weight}
use Rattle.lus_costs.specs.Obeyed.{Obeys, ObeysAtMost, obeyed, obeyed_behind, obeyed_for, obeyed_from, obeyed_inside, obeyed_with, obeyed_within}

module _ (at : ℕ → ℕ) (qs : List Call) (inside : ℕ → Board → ℕ) (least : (n : ℕ) (b : Board) → inside n b ≤ inside_call at (slice_get qs n)) where
  one_bounded : (o : Order) (b : Board) → obeyed_for inside o b ≤ order_weight at qs o
  one_bounded (orders.Call n) b = let le = least n b in omega (arith, le)
  one_bounded o b = omega arith

  behind_bounded : (o : Order) (s : Next) → obeyed_behind inside o s ≤ order_weight at qs o
  behind_bounded o None = omega arith
  behind_bounded o (Some (zero, b)) = one_bounded o b
  behind_bounded o (Some (suc k, b)) = omega arith

  code_bounded : (others : List Instruction) (cells : List Value) (calls : Calls) (os : List Order) (k : ℕ) (b : Board)
      → obeyed inside others cells calls os k b ≤ sum_by (order_weight at qs) os
  code_bounded others cells calls [] k b = omega arith
  code_bounded others cells calls (o ∷ os) k b =
      let rest = code_bounded others cells calls os k b in
      let last = behind_bounded o (exec others cells calls os k b) in
      let sum = sum_by-cons (order_weight at qs) o os in
      omega (arith, rest, last, sum)

if_bounded : (t : Bool) (m n : ℕ) → m ≤ n → (if t then m else 0) ≤ n
if_bounded true m n le = le
if_bounded false m n le = omega arith

module _ (at : ℕ → ℕ) (obeys : Obeys) (less : (g : ℕ) (vs ns : List Value) (i : Row) → obeys g vs ns i ≤ at g) where
  inside_bounded : (vs : List Value) (b : Board) (q : Option Call) → obeyed_inside obeys vs b q ≤ inside_call at q
  inside_bounded vs b None = omega arith
  inside_bounded vs b (Some q) =
      if_bounded (looks q.base b.1) (obeys q.node (part q.cells q.length vs) (part q.cells q.length b.0) (passed q.arguments.items b.1)) (at q.node)
      (less q.node (part q.cells q.length vs) (part q.cells q.length b.0) (passed q.arguments.items b.1))

  class_bounded : (does : Does) (c : Class) (vs : List Value) (b : Board) → obeyed_with does obeys c vs b ≤ class_orders at c
  class_bounded does c vs b =
      code_bounded at c.calls.items (λ n u. obeyed_inside obeys vs u (slice_get c.calls.items n)) (λ n u. inside_bounded vs u (slice_get c.calls.items n))
      c.others.items vs _ c.code.items 0 b

  module _ (classes : List Class) (are : AreCounts classes at) (does : Does) where
    found_bounded : (g : ℕ) (c : Class) → slice_get classes g ≡ Some c → (vs : List Value) (b : Board) → obeyed_with does obeys c vs b ≤ at g
    found_bounded g c found vs b = let le = class_bounded does c vs b in let is = are.each g c found in omega (arith, le, is)

    from_bounded : (g : ℕ) (o : Option Class) → slice_get classes g ≡ o → (vs ns : List Value) (i : Row) → obeyed_from does obeys o vs ns i ≤ at g
    from_bounded g None found vs ns i = omega arith
    from_bounded g (Some c) found vs ns i = found_bounded g c found vs (ns, begun c.own i)

module _ (classes : List Class) (at : ℕ → ℕ) (are : AreCounts classes at) where
  within_bounded : (d g : ℕ) (vs ns : List Value) (i : Row) → obeyed_within classes d g vs ns i ≤ at g
  within_bounded zero g vs ns i = omega arith
  within_bounded (suc d) g vs ns i =
      from_bounded at (λ h us ms j. obeyed_within classes d h us ms j) (within_bounded d) classes are (λ h us ms j. follows classes d h us ms j) g (slice_get classes g) refl vs ns i

  pub step_bounded : (g : ℕ) → ObeysAtMost classes g (at g)
  step_bounded g d c found vs b =
      found_bounded at (λ h us ms j. obeyed_within classes d h us ms j) (within_bounded d) classes are (λ h us ms j. follows classes d h us ms j) g c found vs b
