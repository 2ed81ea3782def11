-- The places of a node's variables have 32 bits.
use Rattle.std.proofs.Common.{arith, ℕ, ◌^◌, ◌<◌, ◌≤◌, List, length, All, Contains}
use Rattle.std.proofs.lemmas.List.Elements.{All-contains_itself, All-weaker}
use Rattle.lus_values.specs.Lists.{Each}
use Rattle.lus_syntax.specs.Limits.{most_variables}
use Rattle.lus_graph.specs.Ways.{Uses, IsOrder as IsUseOrder}
use Rattle.lus_program.specs.Programs.{Node}
use Rattle.lus_streams.proofs.Lists.{each_implies}
use Rattle.lus_order.specs.Orders.{IsNarrow}
use Rattle.lus_order.specs.Uses.{AreUses}

pub narrow_places : (f : Node) (uses : Uses) → AreUses f uses → IsNarrow f → (order : List ℕ) → IsUseOrder uses order → All (λ place. place < 2 ^ 32) order
narrow_places f uses are narrow order o =
    let low : (x : ℕ) → Contains order x → x < 2 ^ 32 = λ x c. let within = o.within x c in let size = are.size in omega arith in
    All-weaker (Contains order) (λ place. place < 2 ^ 32) low order (All-contains_itself order)

-- a node with no more variables than the limit is narrow
pub few_are_narrow : (fs : List Node) → Each (λ f. length f.variables ≤ most_variables) fs → Each IsNarrow fs
few_are_narrow fs few = each_implies (λ f. length f.variables ≤ most_variables) IsNarrow (λ f le. let here : length f.variables ≤ most_variables = le in omega arith) fs few
