-- Counts of two classes: one that only keeps, and one that calls it twice.
use Rattle.std.proofs.Common.{◌≡◌, ◌∙◌, ℕ, zero, suc, ◌+◌, [], ◌∷◌, Some, slice_get, sum_by, refl, sym, ap, ap₂}
use Rattle.std.proofs.lemmas.Option.{none-some, same_Some}
use Rattle.lus_orders.specs.declared.class.Call.{Call}
use Rattle.lus_orders.specs.declared.class.Class.{Class}
use Rattle.lus_orders.specs.declared.order.Order.TheVariants as orders
use Rattle.lus_costs.specs.Costs.{AreCounts, class_orders, limited, order_weight}

module _ (c e : Class) (call : Call) (c_code : c.code.items ≡ orders.Started 1 ∷ orders.Keep 0 0 ∷ [])
    (e_code : e.code.items ≡ orders.Keep 0 0 ∷ orders.Call 0 ∷ orders.Call 0 ∷ []) (e_calls : e.calls.items ≡ call ∷ []) (node : call.node ≡ 0) where
  abbrev counts : ℕ → ℕ
  counts zero = 2
  counts (suc g) = 7

  two : class_orders counts c ≡ 2
  two = ap (sum_by (order_weight counts c.calls.items)) c_code

  seven : class_orders counts e ≡ 7
  seven =
      ap₂ (λ qs os. sum_by (order_weight counts qs) os) e_calls e_code
      ∙ ap (λ g. 1 + (counts g + 1) + (counts g + 1)) node

  are_counts : AreCounts (c ∷ e ∷ []) counts
  are_counts = record { each = each }
    where
      each : (g : ℕ) (k : Class) → slice_get (c ∷ e ∷ []) g ≡ Some k → counts g ≡ class_orders counts k
      each zero k found = sym two ∙ ap (class_orders counts) (same_Some c k found)
      each (suc zero) k found = sym seven ∙ ap (class_orders counts) (same_Some e k found)
      each (suc (suc g)) k found = absurd (none-some k found)

-- what is above the greatest number is told as that
cut : limited 18446744073709551620 ≡ 18446744073709551615
cut = refl
