-- Where the parts of a right side are on clocks, those of its normal form are.
use Rattle.std.proofs.Common.{◌≡◌, sym, ap, ◌∙◌, subst, ℕ, suc, ◌⊎◌, List, [], ◌∷◌, length, drop, Some}
use Rattle.std.proofs.Math.Logic.{inl, inr}
use Rattle.lus_values.specs.Lists.{item, Each}
use Rattle.lus_program.specs.Programs.{Expression, literal, variable, operate, pre, arrow, when, merge, call, Operands, none, more, Equation, Node, Program, node_at}
use Rattle.lus_streams.specs.Clocks.{Clock, clock_of, Part, at, formal_clock, base_of, branch_clock, parts, all_parts}
use Rattle.lus_streams.specs.Equations.{given_by, equation_clock, definition_of, equation_parts}
use Rattle.lus_streams.specs.OnClock.{PartOnClock, RightOnClock}
use Rattle.lus_streams.proofs.Calls.{each_part}
use Rattle.lus_streams.proofs.Lists.{each_left, each_right, each_append}
use Rattle.lus_normal_form.specs.Forms.{Position, Inside, Operand, is_taken}
use Rattle.lus_normal_form.specs.NormalForm.{StandsFor, Stands, IsRight, AreNormal}
use Rattle.lus_normal_form.specs.Named.{Uses, Known, GivesOutput, DefinesFirst, AreNamed}
use Rattle.lus_normal_form.specs.NormalNodes.{IsNormalOf}
use Rattle.lus_normal_form.proofs.Formals.{SameClocks, formals_same}
use Rattle.lus_normal_form.proofs.Faults.{first_part}
use Rattle.lus_normal_form.proofs.Equations.{bases, formals, new_clock, old_clock}

module _ (p : Program) (f : Node) where
  abbrev OnClock : Part → Type 0
  OnClock = PartOnClock p f

  -- an expression on its clock is so as a whole right side
  pub right_on_clock : (e : Expression) (k : Clock) → Each OnClock (parts p e k) → RightOnClock p f (parts p e k)
  right_on_clock (call g c args) k h = h.1
  right_on_clock _ k h = h

  -- an expression is the whole right side of an equation that defines its first variable
  abbrev pub IsWhole : Expression → Clock → Type 0
  IsWhole e k = (xs : List ℕ) × Known f (item 0 xs 0) × (definition_of f (item 0 xs 0) ≡ Some (given_by e 0 xs k))

  -- a part is on its clock, or is a whole right side
  abbrev pub IsPlaced : Part → Type 0
  IsPlaced (at k e) = RightOnClock p f (parts p e k) × (PartOnClock p f (at k e) ⊎ IsWhole e k)

  placed_inside : (e : Expression) (k : Clock) → Each OnClock (parts p e k) → Each IsPlaced (parts p e k)
  placed_inside e k h = each_part p OnClock IsPlaced (λ e k h. (right_on_clock e k h, inl (first_part p OnClock e k h))) e k h

  all_placed : (es : Operands) (ks : ℕ → Clock) (m : ℕ) → Each OnClock (all_parts p es ks m) → Each IsPlaced (all_parts p es ks m)
  all_placed none ks m h = tt
  all_placed (more e es) ks m h =
      let rest = all_parts p es ks (suc m) in
      each_append IsPlaced (parts p e (ks m)) rest (placed_inside e (ks m) (each_left OnClock (parts p e (ks m)) rest h)) (all_placed es ks (suc m) (each_right OnClock (parts p e (ks m)) rest h))

  right_placed : (e : Expression) (k : Clock) → IsWhole e k → RightOnClock p f (parts p e k) → Each IsPlaced (parts p e k)
  right_placed (call g c args) k w h = ((h, inr w), all_placed args (formal_clock (node_at p g) args (base_of (node_at p g) k)) 0 h)
  right_placed e k w h = placed_inside e k h

  pub equations_placed : (qs : List Equation) → Each (DefinesFirst f) qs → Each (λ q. RightOnClock p f (parts p q.right (equation_clock f q))) qs → Each IsPlaced (equation_parts p f qs)
  equations_placed [] d h = tt
  equations_placed (q ∷ qs) d h =
      each_append IsPlaced (parts p q.right (equation_clock f q)) (equation_parts p f qs) (right_placed q.right (equation_clock f q) (q.targets, d.0.0, d.0.1) h.0) (equations_placed qs d.1 h.1)

module _ (p p' : Program) (new_parts : ℕ → List Part) (named : AreNamed p) (normal : IsNormalOf p p' new_parts) (f : ℕ) where
  abbrev node : Node
  node = node_at p f

  abbrev node' : Node
  node' = node_at p' f

  abbrev New : ℕ → Clock → Expression → Type 0
  New = StandsFor (length node.variables) (new_parts f)

  abbrev Used : Part → Type 0
  Used = Uses (Known node) (GivesOutput p node)

  abbrev SourceOn : Part → Type 0
  SourceOn = PartOnClock p node

  abbrev NormalOn : Part → Type 0
  NormalOn = PartOnClock p' node'

  abbrev old : (x : ℕ) → Known node x → clock_of node' x ≡ clock_of node x
  old = old_clock p p' new_parts named normal f

  abbrev new : (y : ℕ) (k : Clock) (a : Expression) → New y k a → clock_of node' y ≡ k
  new = new_clock p p' new_parts named normal f

  abbrev Normal : Position → Expression → Expression → Clock → Type 0
  Normal here e e' k = Stands p New (is_taken here e) e e' k (IsRight p New e e' k)

  operand_on : (a a' : Expression) (k : Clock) → Normal Operand a a' k → Each Used (parts p a k) → Each SourceOn (parts p a k) → Each NormalOn (parts p' a' k)
  operand_on (literal v) a' k is u o = subst (λ z. Each NormalOn (parts p' z k)) (sym is) (tt, tt)
  operand_on (variable x) a' k is u o = subst (λ z. Each NormalOn (parts p' z k)) (sym is) (old x u.0.1 ∙ o.0, tt)
  operand_on a a' k is u o = subst (λ z. Each NormalOn (parts p' z k)) (sym is.1) (new is.0 k a is.2, tt)

  mutual
    inner_on : (e e' : Expression) (k : Clock) → Normal Inside e e' k → Each Used (parts p e k) → Each SourceOn (parts p e k) → Each NormalOn (parts p' e' k)
    inner_on (literal v) e' k is u o = operand_on (literal v) e' k is u o
    inner_on (variable x) e' k is u o = operand_on (variable x) e' k is u o
    inner_on (operate op es) e' k is u o = subst (λ z. Each NormalOn (parts p' z k)) (sym is.1) (tt, inners_on es is.0 (λ m. k) 0 is.2 u.1 o.1)
    inner_on (pre a) e' k is u o = subst (λ z. Each NormalOn (parts p' z k)) (sym is.1) (tt, operand_on a is.0 k is.2 u.1 o.1)
    inner_on (arrow a b) e' k is u o =
        let first = parts p a k in
        let later = parts p b k in
        subst (λ z. Each NormalOn (parts p' z k)) (sym is.2) (
          tt,
          each_append NormalOn (parts p' is.0 k) (parts p' is.1 k)
              (inner_on a is.0 k is.3 (each_left Used first later u.1) (each_left SourceOn first later o.1))
              (inner_on b is.1 k is.4 (each_right Used first later u.1) (each_right SourceOn first later o.1)),
        )
    inner_on (when t a) e' k is u o =
        subst (λ z. Each NormalOn (parts p' z k)) (sym is.1) (o.0 ∙ ap (λ z. t ∷ z) (sym (old t.variable u.0.1)), operand_on a is.0 (drop 1 k) is.2 u.1 o.1)
    inner_on (merge x bs) e' k is u o = subst (λ z. Each NormalOn (parts p' z k)) (sym is.1) (old x u.0.1 ∙ o.0, inners_on bs is.0 (branch_clock x k) 0 is.2 u.1 o.1)
    inner_on (call g c args) e' k is u o = operand_on (call g c args) e' k is u o

    inners_on : (es es' : Operands) (ks : ℕ → Clock) (m : ℕ) → AreNormal p New Inside es es' ks m → Each Used (all_parts p es ks m) → Each SourceOn (all_parts p es ks m) → Each NormalOn (all_parts p' es' ks m)
    inners_on none es' ks m is u o = subst (λ z. Each NormalOn (all_parts p' z ks m)) (sym is) tt
    inners_on (more e es) es' ks m is u o =
        let first = parts p e (ks m) in
        let rest = all_parts p es ks (suc m) in
        subst (λ z. Each NormalOn (all_parts p' z ks m)) (sym is.2)
        (each_append NormalOn (parts p' is.0 (ks m)) (all_parts p' is.1 ks (suc m))
        (inner_on e is.0 (ks m) is.3 (each_left Used first rest u) (each_left SourceOn first rest o))
        (inners_on es is.1 ks (suc m) is.4 (each_right Used first rest u) (each_right SourceOn first rest o)))

  operands_on : (es es' : Operands) (ks ks' : ℕ → Clock) (m : ℕ) → SameClocks es ks ks' m → AreNormal p New Operand es es' ks m → Each Used (all_parts p es ks m) → Each SourceOn (all_parts p es ks m)
      → Each NormalOn (all_parts p' es' ks' m)
  operands_on none es' ks ks' m same is u o = subst (λ z. Each NormalOn (all_parts p' z ks' m)) (sym is) tt
  operands_on (more e es) es' ks ks' m same is u o =
      let first = parts p e (ks m) in
      let rest = all_parts p es ks (suc m) in
      subst (λ z. Each NormalOn (all_parts p' z ks' m)) (sym is.2)
      (each_append NormalOn (parts p' is.0 (ks' m)) (all_parts p' is.1 ks' (suc m))
      (subst (λ z. Each NormalOn (parts p' is.0 z)) (sym same.0) (operand_on e is.0 (ks m) is.3 (each_left Used first rest u) (each_left SourceOn first rest o)))
      (operands_on es is.1 ks ks' (suc m) same.1 is.4 (each_right Used first rest u) (each_right SourceOn first rest o)))

  pub right_on : (e e' : Expression) (k : Clock) → IsRight p New e e' k → Each Used (parts p e k) → RightOnClock p node (parts p e k) → RightOnClock p' node' (parts p' e' k)
  right_on (call g c args) e' k is u o =
      let base = base_of (node_at p g) k in
      let base' = base_of (node_at p' g) k in
      let same = formals_same p p' (formals p p' new_parts named normal f) g args is.0 base base' (bases p p' new_parts named normal f g c u.0.1 k) args 0 is.2.0 in
      subst (λ z. RightOnClock p' node' (parts p' z k)) (sym is.1)
      (operands_on args is.0 (formal_clock (node_at p g) args base) (formal_clock (node_at p' g) is.0 base') 0 same is.2.1 u.1 o)
  right_on e e' k is u o = right_on_clock p' node' e' k (inner_on e e' k is u o)
