-- The places of the variables of a normal form have 32 bits: they are no more than the variables and the parts of its source.
use Rattle.std.proofs.Common.{arith, ◌≡◌, refl, ℕ, ◌+◌, ◌≤◌, List, [], ◌∷◌, length, length-append}
use Rattle.lus_values.specs.Lists.{Each}
use Rattle.lus_syntax.specs.Limits.{most_parts, most_variables}
use Rattle.lus_program.specs.Parts.{node_parts}
use Rattle.lus_program.specs.Programs.{empty_node, Equation, Node, node_at, Program}
use Rattle.lus_program.specs.Sound.{IsLimited}
use Rattle.lus_streams.specs.Equations.{equation_clock}
use Rattle.lus_streams.proofs.Lists.{each_item, each_of_items}
use Rattle.lus_normal_form.specs.Forms.{equations_count}
use Rattle.lus_normal_form.specs.Parts.{equations_taken, right_taken}
use Rattle.lus_normal_form.proofs.Counted.{taken_length}
use Rattle.lus_normal_form.proofs.NewAreFew.{new_are_few}
use Rattle.lus_order.specs.Orders.{IsNarrow}
use Rattle.lus_normal.specs.Laws.{IsNormalProgram}
use Rattle.lus_normal.specs.Parts.{HasFewParts}
use Rattle.lus_normal.proofs.Limited.{each_within_sum}

module _ (p : Program) where
  taken_counted : (f : Node) (qs : List Equation) → length (equations_taken p f qs) ≡ equations_count qs
  taken_counted f [] = refl
  taken_counted f (q ∷ qs) =
      let k = equation_clock f q in
      let sum = length-append (right_taken p q.right k) (equations_taken p f qs) in
      let first = taken_length p q.right k in
      let rest = taken_counted f qs in
      omega (arith, sum, first, rest)

-- the normal form of a node has at most as many more variables as the node has parts
pub normal_variables_few : (p p' : Program) → IsLimited p → HasFewParts p → IsNormalProgram p p' → (g : ℕ) → length (node_at p' g).variables ≤ most_variables + most_parts
normal_variables_few p p' limited few normal g =
    let f = node_at p g in
    let own : length f.variables ≤ most_variables = each_item (λ h. length h.variables ≤ most_variables) empty_node p.nodes (omega arith) limited.variables g in
    let parts : node_parts f ≤ most_parts = each_item (λ h. node_parts h ≤ most_parts) empty_node p.nodes (omega arith) (each_within_sum node_parts p.nodes most_parts few) g in
    let new = new_are_few f in
    let taken = taken_counted p f f.equations in
    let width = (normal g).width in
    omega (arith, own, parts, new, taken, width)

pub normal_is_narrow : (p p' : Program) → IsLimited p → HasFewParts p → IsNormalProgram p p' → Each IsNarrow p'.nodes
normal_is_narrow p p' limited few normal =
    each_of_items IsNarrow empty_node p'.nodes (λ g lt. let most = normal_variables_few p p' limited few normal g in omega (arith, most))
