-- What is said of an expression doesn't hang on the numbers of its calls.
use Rattle.std.proofs.Common.{◌≡◌, ◌∙◌, ap, ap₂, sym, refl, ℕ, suc, ◌+◌, List, [], ◌∷◌, max, sum_by}
use Rattle.std.proofs.lemmas.List.Sums.{sum_by-cons}
use Rattle.lus_program.specs.declared.types.Kind.{Kind}
use Rattle.lus_program.specs.declared.types.Kind.TheVariants as kinds
use Rattle.lus_program.specs.declared.node.Equation.{Equation as StoredEquation}
use Rattle.lus_program.specs.Programs.{Expression, literal, variable, operate, pre, arrow, when, merge, call, Operands, none, more, calls, numbered, all_numbered, Node, Program}
use Rattle.lus_program.specs.View.{expression_of, equations_from}
use Rattle.lus_program.specs.Leaves.{kind_leaves}
use Rattle.lus_cells.specs.Cells.{expression_cells, operand_cells}
use Rattle.lus_program.specs.Given.{operator_given, given, last_given}
use Rattle.lus_cells.specs.Given.{given_leaves}

module _ (p : Program) (f : Node) where
  mutual
    given_numbered : (n : ℕ) (e : Expression) → given p f (numbered n e) ≡ given p f e
    given_numbered n (literal v) = refl
    given_numbered n (variable x) = refl
    given_numbered n (operate o es) = ap (operator_given p o) (last_numbered n kinds.Bool es)
    given_numbered n (pre a) = given_numbered n a
    given_numbered n (arrow a b) = given_numbered n a
    given_numbered n (when t a) = given_numbered n a
    given_numbered n (merge x bs) = last_numbered n kinds.Bool bs
    given_numbered n (call g c es) = refl

    last_numbered : (n : ℕ) (k : Kind) (es : Operands) → last_given p f k (all_numbered n es) ≡ last_given p f k es
    last_numbered n k none = refl
    last_numbered n k (more e es) = last_numbered (n + calls e) (given p f (numbered n e)) es ∙ ap (λ l. last_given p f l es) (given_numbered n e)

  module _ (leaves : List ℕ) (at : ℕ → ℕ) where
    abbrev size : Expression → ℕ
    size = given_leaves p f leaves

    size_numbered : (n : ℕ) (e : Expression) → size (numbered n e) ≡ size e
    size_numbered n e = ap (kind_leaves _) (given_numbered n e)

    mutual
      cells_numbered : (n : ℕ) (e : Expression) → expression_cells size at (numbered n e) ≡ expression_cells size at e
      cells_numbered n (literal v) = refl
      cells_numbered n (variable x) = refl
      cells_numbered n (operate o es) = all_cells_numbered n es
      cells_numbered n (pre a) = ap₂ ◌+◌ (size_numbered n a) (cells_numbered n a)
      cells_numbered n (arrow a b) = ap (λ m. 1 + m) (ap₂ ◌+◌ (cells_numbered n a) (cells_numbered (n + calls a) b))
      cells_numbered n (when t a) = cells_numbered n a
      cells_numbered n (merge x bs) = all_cells_numbered n bs
      cells_numbered n (call g c es) = ap (λ m. max 1 (at g) + m) (all_cells_numbered (suc n) es)

      all_cells_numbered : (n : ℕ) (es : Operands) → operand_cells size at (all_numbered n es) ≡ operand_cells size at es
      all_cells_numbered n none = refl
      all_cells_numbered n (more e es) = ap₂ ◌+◌ (cells_numbered n e) (all_cells_numbered (n + calls e) es)

    pub cells_stored : (n : ℕ) (qs : List StoredEquation) → sum_by (λ q. expression_cells size at q.right) (equations_from n qs) ≡ sum_by (λ q. expression_cells size at (expression_of q.right)) qs
    cells_stored n [] = refl
    cells_stored n (q ∷ qs) =
        let e = expression_of q.right in
        sum_by-cons (λ r. expression_cells size at r.right) (record { targets = q.targets.items; right = numbered n e }) (equations_from (n + calls e) qs)
        ∙ ap₂ ◌+◌ (cells_numbered n e) (cells_stored (n + calls e) qs)
        ∙ sym (sum_by-cons (λ r. expression_cells size at (expression_of r.right)) q qs)
