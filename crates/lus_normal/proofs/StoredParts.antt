-- The parts of a node and of a program over what the code holds.
use Rattle.std.proofs.Common.{◌≡◌, ◌∙◌, ℕ, suc, ◌+◌, List, [], ◌∷◌, map, sum_by, refl, arith}
use Rattle.std.proofs.lemmas.List.Sums.{sum_by-cons}
use Rattle.lus_program.specs.declared.node.Equation.{Equation as StoredEquation}
use Rattle.lus_program.specs.declared.node.Node.{Node as StoredNode}
use Rattle.lus_program.specs.Parts.{parts, node_parts}
use Rattle.lus_program.specs.View.{expression_of, node_of}
use Rattle.lus_program.proofs.Parts.{parts-equations_from}

abbrev pub equations_parts : List StoredEquation → ℕ
equations_parts [] = 0
equations_parts (q ∷ qs) = suc (parts (expression_of q.right)) + equations_parts qs

abbrev pub nodes_parts : List StoredNode → ℕ
nodes_parts [] = 0
nodes_parts (f ∷ fs) = node_parts (node_of f) + nodes_parts fs

equations_sum : (qs : List StoredEquation) → sum_by (λ q. suc (parts (expression_of q.right))) qs ≡ equations_parts qs
equations_sum [] = refl
equations_sum (q ∷ qs) = omega (arith, sum_by-cons (λ q. suc (parts (expression_of q.right))) q qs, equations_sum qs)

pub stored_node : (f : StoredNode) → node_parts (node_of f) ≡ equations_parts f.equations.items
stored_node f = parts-equations_from 0 f.equations.items ∙ equations_sum f.equations.items

pub stored_nodes : (fs : List StoredNode) → sum_by node_parts (map node_of fs) ≡ nodes_parts fs
stored_nodes [] = refl
stored_nodes (f ∷ fs) = omega (arith, sum_by-cons node_parts (node_of f) (map node_of fs), stored_nodes fs)
