-- The new variables of a node's normal form are no more than its parts: a part is taken out at most once, and no whole right
-- side is.
use Rattle.std.proofs.Common.{ℕ, suc, ◌≤◌, Bool, true, false, cond, List, [], ◌∷◌, sum_by, arith}
use Rattle.std.proofs.lemmas.List.Sums.{sum_by-cons}
use Rattle.lus_program.specs.Parts.{parts, parts_all}
use Rattle.lus_program.specs.Programs.{Expression, literal, variable, operate, pre, arrow, when, merge, call, Operands, none, more, Equation}
use Rattle.lus_normal_form.specs.Forms.{Position, Inside, Operand, is_taken, right_count, operands_count, size, equations_count}
use Rattle.lus_normal_form.specs.Computed.{NewAreFew}

one : (here : Position) (e : Expression) → suc (right_count e) ≤ parts e → size here e ≤ parts e
one here e h = choose (is_taken here e)
  where
    choose : (b : Bool) → cond b (suc (right_count e)) (right_count e) ≤ parts e
    choose true = h
    choose false = omega (arith, h)

mutual
  -- a whole right side isn't taken out itself
  pub right_few : (e : Expression) → suc (right_count e) ≤ parts e
  right_few (literal v) = omega arith
  right_few (variable x) = omega arith
  right_few (operate o es) = let h = operands_few Inside es in omega (arith, h)
  right_few (pre a) = let h = one Operand a (right_few a) in omega (arith, h)
  right_few (arrow a b) = let h = one Inside a (right_few a) in let l = one Inside b (right_few b) in omega (arith, h, l)
  right_few (when t a) = let h = one Operand a (right_few a) in omega (arith, h)
  right_few (merge x bs) = let h = operands_few Inside bs in omega (arith, h)
  right_few (call g c args) = let h = operands_few Operand args in omega (arith, h)

  operands_few : (here : Position) (es : Operands) → operands_count here es ≤ parts_all es
  operands_few here none = omega arith
  operands_few here (more e es) = let h = one here e (right_few e) in let l = operands_few here es in omega (arith, h, l)

abbrev equation_parts : Equation → ℕ
equation_parts q = suc (parts q.right)

equations_few : (qs : List Equation) → equations_count qs ≤ sum_by equation_parts qs
equations_few [] = omega arith
equations_few (q ∷ qs) =
    let h = right_few q.right in
    let l = equations_few qs in
    let sum = sum_by-cons equation_parts q qs in
    omega (arith, h, l, sum)

pub new_are_few : NewAreFew
new_are_few f = equations_few f.equations
