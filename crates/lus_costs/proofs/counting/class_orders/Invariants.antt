use Rattle.std.proofs.Common.{◌≡◌, ◌≤◌, ◌+◌, drop, sum_by}
use Rattle.lus_values.specs.Lists.{item}
use Rattle.lus_costs.specs.Costs.{class_orders, limited, most, order_weight}
use Rattle.lus_costs.proofs.counting.class_orders.Given as goal

abbrev pub invariant-loop-order : goal.invariant-loop-order
invariant-loop-order l = record {
  sum : limited (l.sum + sum_by (order_weight (item 0 l.counts) l.class.calls.items) (drop l.order-index l.class.code.items)) ≡ limited (class_orders (item 0 l.counts) l.class);
  small : l.sum ≤ most;
}
