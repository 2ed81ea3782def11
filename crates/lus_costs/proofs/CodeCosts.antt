-- The costs of nodes by a table of the orders of all.
use Rattle.std.proofs.Common.{◌≡◌, ℕ, ◌<◌, List, Some, slice_get, subst, arith}
use Rattle.std.proofs.lemmas.Option.{slice_get_within}
use Rattle.lus_values.specs.Lists.{item}
use Rattle.lus_orders.specs.declared.class.Class.{Class}
use Rattle.lus_costs.specs.declared.cost.Cost.{Cost}
use Rattle.lus_costs.specs.Costs.{AreLimited, IsCost, IsCostOfClass, limited, most}
use Rattle.lus_costs.specs.Obeyed.{ObeysAtMost}
use Rattle.lus_costs.proofs.Bounded.{step_bounded}

module _ (classes : List Class) (table : List ℕ) (limits : AreLimited classes table) (place g : ℕ) (c : Class) (found : slice_get classes g ≡ Some c) (cost : Cost)
    (is : IsCostOfClass place c (item 0 table g) cost) where
  told : item 0 table g ≡ limited (limits.at g)
  told = limits.each g (slice_get_within classes g c found)

  pub node_costs : IsCost classes place g cost
  node_costs = record {
    class = c;
    found = found;
    at = limits.at;
    exact = limits.exact;
    costs = subst (λ n. IsCostOfClass place c n cost) told is;
  }

  pub node_bounded : cost.orders < most → ObeysAtMost classes g cost.orders
  node_bounded low =
      let same : limits.at g ≡ cost.orders = (let count = is.orders in omega (arith, low, told, count)) in
      subst (ObeysAtMost classes g) same (step_bounded classes limits.at limits.exact g)
