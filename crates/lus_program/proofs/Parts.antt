-- Numbering calls leaves the parts as they are.
use Rattle.std.proofs.Common.{arith, ◌≡◌, refl, ap, ℕ, ◌+◌, suc, List, [], ◌∷◌, sum_by}
use Rattle.std.proofs.lemmas.List.Sums.{sum_by-cons}
use Rattle.lus_program.specs.declared.node.Equation.{Equation as StoredEquation}
use Rattle.lus_program.specs.Programs.{Expression, literal, variable, operate, pre, arrow, when, merge, call, Operands, none, more, calls, numbered, all_numbered, Equation}
use Rattle.lus_program.specs.Parts.{parts, parts_all}
use Rattle.lus_program.specs.View.{expression_of, equations_from}

mutual
  pub parts-numbered : (n : ℕ) (e : Expression) → parts (numbered n e) ≡ parts e
  parts-numbered n (literal v) = refl
  parts-numbered n (variable x) = refl
  parts-numbered n (operate o es) = ap suc (parts_all-numbered n es)
  parts-numbered n (pre a) = ap suc (parts-numbered n a)
  parts-numbered n (arrow a b) = omega (arith, parts-numbered n a, parts-numbered (n + calls a) b)
  parts-numbered n (when t a) = ap suc (parts-numbered n a)
  parts-numbered n (merge x bs) = ap suc (parts_all-numbered n bs)
  parts-numbered n (call g c es) = ap suc (parts_all-numbered (suc n) es)

  pub parts_all-numbered : (n : ℕ) (es : Operands) → parts_all (all_numbered n es) ≡ parts_all es
  parts_all-numbered n none = refl
  parts_all-numbered n (more e es) = omega (arith, parts-numbered n e, parts_all-numbered (n + calls e) es)

-- the parts of equations as they are stored
pub parts-equations_from : (n : ℕ) (qs : List StoredEquation) → sum_by (λ q. suc (parts q.right)) (equations_from n qs) ≡ sum_by (λ q. suc (parts (expression_of q.right))) qs
parts-equations_from n [] = refl
parts-equations_from n (q ∷ qs) =
    let first : Equation = record { targets = q.targets.items; right = numbered n (expression_of q.right) } in
    let rest = equations_from (n + calls (expression_of q.right)) qs in
    let here = parts-numbered n (expression_of q.right) in
    let later = parts-equations_from (n + calls (expression_of q.right)) qs in
    omega (arith, here, later, sum_by-cons (λ q. suc (parts q.right)) first rest, sum_by-cons (λ q. suc (parts (expression_of q.right))) q qs)
