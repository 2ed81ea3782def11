-- How many orders a step of a class obeys at most, counted along its code, and how many places its rows have.
use Rattle.std.specs.Prelude.{◌≡◌, ◌<◌, ℕ, ◌+◌, ◌*◌, List, length, map, min, sum_by, Option, None, Some, slice_get}
use Rattle.lus_values.specs.Lists.{item}
use Rattle.lus_graph.specs.Ways.{Uses}
use Rattle.lus_orders.specs.declared.class.Call.{Call}
use Rattle.lus_orders.specs.declared.class.Class.{Class}
use Rattle.lus_orders.specs.declared.order.Order.{Order}
use Rattle.lus_orders.specs.declared.order.Order.TheVariants as orders
use Rattle.lus_costs.specs.declared.cost.Cost.{Cost}

-- the greatest number that is told, which stands for all above it too
abbrev pub most : ℕ
most = 18446744073709551615

abbrev pub limited : ℕ → ℕ
limited n = min n most

-- what is counted inside a call, where nodes have so many orders
abbrev pub inside_call : (ℕ → ℕ) → Option Call → ℕ
inside_call at None = 0
inside_call at (Some q) = at q.node

-- an order counts once, and a call also as the called node does
abbrev pub order_weight : (ℕ → ℕ) → List Call → Order → ℕ
order_weight at qs (orders.Call n) = inside_call at (slice_get qs n) + 1
order_weight at qs o = 1

abbrev pub class_orders : (ℕ → ℕ) → Class → ℕ
class_orders at c = sum_by (order_weight at c.calls.items) c.code.items

-- each class has so many orders. Since no class calls itself, directly or round, there is one such count
pub record AreCounts (classes : List Class) (at : ℕ → ℕ) : Type 0 where
  pub each : (g : ℕ) (c : Class) → slice_get classes g ≡ Some c → at g ≡ class_orders at c

-- a table has what each class has, up to the greatest number
pub record AreLimited (classes : List Class) (table : List ℕ) : Type 0 where
  pub at : ℕ → ℕ
  pub exact : AreCounts classes at
  pub size : length table ≡ length classes
  pub each : (g : ℕ) → g < length classes → item 0 table g ≡ limited (at g)

-- the nodes that the code of each class calls
abbrev pub nodes_called : Class → List ℕ
nodes_called c = map (λ q. q.node) c.calls.items

abbrev pub code_uses : List Class → Uses
code_uses classes = map nodes_called classes

-- the places of a class's row: its own, and behind them those of the frames of its calls
abbrev pub row_places : Class → ℕ
row_places c = c.own + c.behind

-- those of an instance: its cells, as many for its next instant, and its row
abbrev pub instance_places : Class → ℕ
instance_places c = 2 * c.cells + row_places c

-- what a class with so many orders costs, where a place takes so many bytes
pub record IsCostOfClass (place : ℕ) (c : Class) (count : ℕ) (cost : Cost) : Type 0 where
  pub orders : cost.orders ≡ count
  pub row : cost.row ≡ limited (row_places c)
  pub instance_bytes : cost.instance_bytes ≡ limited (place * instance_places c)
  pub saved_bytes : cost.saved_bytes ≡ limited (place * c.cells)

-- what class g costs among classes that each have their orders
pub record IsCost (classes : List Class) (place g : ℕ) (cost : Cost) : Type 0 where
  pub class : Class
  pub found : slice_get classes g ≡ Some class
  pub at : ℕ → ℕ
  pub exact : AreCounts classes at
  pub costs : IsCostOfClass place class (limited (at g)) cost
