-- Sums up to the greatest number: counts that are cut to it give the same.
use Rattle.std.proofs.Common.{◌≡◌, ℕ, ◌+◌, List, [], ◌∷◌, Option, None, Some, slice_get, sum_by, refl, arith}
use Rattle.std.proofs.lemmas.List.Sums.{sum_by-cons}
use Rattle.lus_orders.specs.declared.class.Call.{Call}
use Rattle.lus_orders.specs.declared.class.Class.{Class}
use Rattle.lus_orders.specs.declared.order.Order.{Order}
use Rattle.lus_orders.specs.declared.order.Order.TheVariants as orders
use Rattle.lus_costs.specs.Costs.{class_orders, inside_call, limited, order_weight}

module _ (at : ℕ → ℕ) where
  abbrev pub cut : ℕ → ℕ
  cut g = limited (at g)

  inside_cut : (q : Option Call) → limited (inside_call cut q + 1) ≡ limited (inside_call at q + 1)
  inside_cut None = refl
  inside_cut (Some q) = omega arith

  weight_cut : (qs : List Call) (o : Order) → limited (order_weight cut qs o) ≡ limited (order_weight at qs o)
  weight_cut qs (orders.Call n) = inside_cut (slice_get qs n)
  weight_cut qs o = refl

  sum_cut : (qs : List Call) (os : List Order) → limited (sum_by (order_weight cut qs) os) ≡ limited (sum_by (order_weight at qs) os)
  sum_cut qs [] = refl
  sum_cut qs (o ∷ os) =
      let first = weight_cut qs o in
      let rest = sum_cut qs os in
      let here = sum_by-cons (order_weight cut qs) o os in
      let there = sum_by-cons (order_weight at qs) o os in
      omega (arith, first, rest, here, there)

  pub class_cut : (c : Class) → limited (class_orders cut c) ≡ limited (class_orders at c)
  class_cut c = sum_cut c.calls.items c.code.items
