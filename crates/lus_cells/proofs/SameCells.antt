-- Expressions have the same cells by counts that are the same where they ask for them.
use Rattle.std.proofs.Common.{◌≡◌, refl, ap₂, arith, ℕ, ◌+◌, List, [], ◌∷◌, ◌++◌, Some, max, flat_map, sum_by, Contains}
use Rattle.std.proofs.lemmas.List.Elements.{Contains-append_left, Contains-append_right}
use Rattle.std.proofs.lemmas.List.Sums.{sum_by-cons}
use Rattle.lus_values.specs.Lists.{Each}
use Rattle.lus_program.specs.declared.types.Kind.{Kind}
use Rattle.lus_program.specs.Programs.{Expression, literal, variable, operate, pre, arrow, when, merge, call, Operands, none, more, Equation, Node, Program}
use Rattle.lus_program.specs.Resolved.{EquationFits, kinds_given_in, nodes_called, all_nodes_called}
use Rattle.lus_program.proofs.TypedParts.{HasKind, HaveKinds, operate_typed, both_typed, when_typed, merge_typed, call_typed, more_typed, whole_call, whole_typed, fits_given}
use Rattle.lus_cells.specs.Cells.{expression_cells, operand_cells}

module _ (p : Program) (f : Node) (size size' : Expression → ℕ) (sized : (e : Expression) → HasKind p f e → size e ≡ size' e) (at at' : ℕ → ℕ) where
  abbrev AreSame : List ℕ → Type 0
  AreSame gs = (g : ℕ) → Contains gs g → at g ≡ at' g

  left_same : (gs hs : List ℕ) → AreSame (gs ++ hs) → AreSame gs
  left_same gs hs h g among = h g (Contains-append_left gs hs g among)

  right_same : (gs hs : List ℕ) → AreSame (gs ++ hs) → AreSame hs
  right_same gs hs h g among = h g (Contains-append_right gs hs g among)

  abbrev here : Expression → ℕ
  here = expression_cells size at

  abbrev there : Expression → ℕ
  there = expression_cells size' at'

  call_same : (g c : ℕ) (es : Operands) → AreSame (g ∷ all_nodes_called es) → operand_cells size at es ≡ operand_cells size' at' es → here (call g c es) ≡ there (call g c es)
  call_same g c es h operands = ap₂ (λ m n. max 1 m + n) (left_same (g ∷ []) (all_nodes_called es) h g (0, omega arith, refl)) operands

  mutual
    cells_same : (e : Expression) → HasKind p f e → AreSame (nodes_called e) → here e ≡ there e
    cells_same (literal v) k h = refl
    cells_same (variable x) k h = refl
    cells_same (operate o es) k h = operands_same es (operate_typed p f o es k) h
    cells_same (pre a) k h = ap₂ ◌+◌ (sized a k) (cells_same a k h)
    cells_same (arrow a b) k h =
        let both = both_typed p f a b k in
        ap₂ (λ m n. 1 + (m + n)) (cells_same a both.0 (left_same (nodes_called a) (nodes_called b) h)) (cells_same b both.1 (right_same (nodes_called a) (nodes_called b) h))
    cells_same (when t a) k h = cells_same a (when_typed p f t a k).1 h
    cells_same (merge x bs) k h = operands_same bs (merge_typed p f x bs k).1 h
    cells_same (call g c es) k h =
        let made = call_typed p f g c es k in
        call_same g c es h (operands_same es (made.2.arguments, made.2.have) (right_same (g ∷ []) (all_nodes_called es) h))

    operands_same : (es : Operands) → HaveKinds p f es → AreSame (all_nodes_called es) → operand_cells size at es ≡ operand_cells size' at' es
    operands_same none k h = refl
    operands_same (more e es) k h =
        let both = more_typed p f e es k in
        ap₂ ◌+◌ (cells_same e both.0 (left_same (nodes_called e) (all_nodes_called es) h)) (operands_same es both.1 (right_same (nodes_called e) (all_nodes_called es) h))

  right_side_same : (e : Expression) (ks : List Kind) → kinds_given_in p f e ≡ Some ks → AreSame (nodes_called e) → here e ≡ there e
  right_side_same (call g c es) ks k h =
      let made = whole_call p f g c es ks k in
      call_same g c es h (operands_same es (made.arguments, made.have) (right_same (g ∷ []) (all_nodes_called es) h))
  right_side_same e ks k h = cells_same e (whole_typed p f e ks k) h

  pub equations_same : (qs : List Equation) → Each (EquationFits p f) qs → AreSame (flat_map (λ q. nodes_called q.right) qs) → sum_by (λ q. here q.right) qs ≡ sum_by (λ q. there q.right) qs
  equations_same [] fits h = refl
  equations_same (q ∷ qs) fits h =
      let r = fits_given p f q fits.0 in
      let rest = flat_map (λ q. nodes_called q.right) qs in
      let first = right_side_same q.right r.kinds r.given (left_same (nodes_called q.right) rest h) in
      let others = equations_same qs fits.1 (right_same (nodes_called q.right) rest h) in
      omega (arith, sum_by-cons (λ (r : Equation). here r.right) q qs, sum_by-cons (λ (r : Equation). there r.right) q qs)
