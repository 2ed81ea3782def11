-- What is taken out of right sides, each part on its clock, in the order of the new variables.
use Rattle.std.specs.Prelude.{ℕ, suc, List, [], ◌∷◌, ◌++◌, drop, cond}
use Rattle.lus_program.specs.Programs.{Expression, literal, variable, operate, pre, arrow, when, merge, call, Operands, none, more, Equation, Node, Program, node_at}
use Rattle.lus_streams.specs.Clocks.{Clock, Part, at, formal_clock, base_of, branch_clock}
use Rattle.lus_streams.specs.Equations.{equation_clock}
use Rattle.lus_normal_form.specs.Forms.{Position, Inside, Operand, is_taken}

-- for an expression, and what is taken out of it in turn
abbrev pub part_taken : Position → Expression → Clock → List Part → List Part
part_taken here e k ts = cond (is_taken here e) (at k e ∷ ts) ts

module _ (p : Program) where
  -- out of a whole right side
  abbrev mutual
    pub right_taken : Expression → Clock → List Part
    right_taken (literal v) k = []
    right_taken (variable x) k = []
    right_taken (operate o es) k = operands_taken Inside es (λ m. k) 0
    right_taken (pre a) k = part_taken Operand a k (right_taken a k)
    right_taken (arrow a b) k = part_taken Inside a k (right_taken a k) ++ part_taken Inside b k (right_taken b k)
    right_taken (when t a) k = part_taken Operand a (drop 1 k) (right_taken a (drop 1 k))
    right_taken (merge x bs) k = operands_taken Inside bs (branch_clock x k) 0
    right_taken (call g c args) k = operands_taken Operand args (formal_clock (node_at p g) args (base_of (node_at p g) k)) 0

    -- out of operands from number m on, each on the clock of its number
    pub operands_taken : Position → Operands → (ℕ → Clock) → ℕ → List Part
    operands_taken here none ks m = []
    operands_taken here (more e es) ks m = part_taken here e (ks m) (right_taken e (ks m)) ++ operands_taken here es ks (suc m)

  -- out of an expression where it stands
  abbrev pub taken : Position → Expression → Clock → List Part
  taken here e k = part_taken here e k (right_taken e k)

  -- out of equations of a node
  abbrev pub equations_taken : Node → List Equation → List Part
  equations_taken f [] = []
  equations_taken f (q ∷ qs) = right_taken q.right (equation_clock f q) ++ equations_taken f qs

  -- out of a node
  abbrev pub node_taken : Node → List Part
  node_taken f = equations_taken f f.equations
