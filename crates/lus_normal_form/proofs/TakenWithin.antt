-- What is taken out of a right side is among its parts.
use Rattle.std.proofs.Common.{◌≡◌, ℕ, suc, Bool, true, false, cond, List, [], ◌∷◌, ◌++◌, drop, sym, ap, ◌∙◌, append_assoc}
use Rattle.lus_values.specs.Lists.{Each}
use Rattle.lus_program.specs.Programs.{Expression, literal, variable, operate, pre, arrow, when, merge, call, Operands, none, more, Equation, Node, Program, node_at}
use Rattle.lus_streams.specs.Clocks.{Clock, Part, at, formal_clock, base_of, branch_clock, parts, all_parts}
use Rattle.lus_streams.specs.Equations.{equation_clock, equation_parts, node_parts}
use Rattle.lus_streams.proofs.Lists.{each_append}
use Rattle.lus_normal_form.specs.NormalNodes.{IsWithin}
use Rattle.lus_normal_form.specs.Forms.{Position, Inside, Operand, is_taken}
use Rattle.lus_normal_form.specs.Parts.{right_taken, operands_taken, taken, equations_taken, node_taken}

-- these are items of all, one after the other
module _ (p : Program) (all : List Part) where
  abbrev AreIn : List Part → Type 0
  AreIn xs = (before after : List Part) × (all ≡ before ++ (xs ++ after))

  tail_in : (x : Part) (xs : List Part) → AreIn (x ∷ xs) → AreIn xs
  tail_in x xs h = (h.0 ++ x ∷ [], h.1, h.2 ∙ sym (append_assoc h.0 (x ∷ []) (xs ++ h.1)))

  left_in : (xs ys : List Part) → AreIn (xs ++ ys) → AreIn xs
  left_in xs ys h = (h.0, ys ++ h.1, h.2 ∙ ap (λ l. h.0 ++ l) (append_assoc xs ys h.1))

  right_in : (xs ys : List Part) → AreIn (xs ++ ys) → AreIn ys
  right_in xs ys h = (h.0 ++ xs, h.1, h.2 ∙ ap (λ l. h.0 ++ l) (append_assoc xs ys h.1) ∙ sym (append_assoc h.0 xs (ys ++ h.1)))

  abbrev W : List Part → Type 0
  W es = Each (IsWithin p all) es

  one : (here : Position) (a : Expression) (k : Clock) → AreIn (parts p a k) → (AreIn (parts p a k) → W (right_taken p a k)) → W (taken p here a k)
  one here a k h rest = choose (is_taken here a)
    where
      choose : (b : Bool) → W (cond b (at k a ∷ right_taken p a k) (right_taken p a k))
      choose true = (h, rest h)
      choose false = rest h

  first : (here : Position) (a : Expression) (k : Clock) (later es : List Part) → AreIn (parts p a k ++ later) → (AreIn (parts p a k) → W (right_taken p a k)) → (AreIn later → W es) → W (taken p here a k ++ es)
  first here a k later es h own rest = each_append (IsWithin p all) (taken p here a k) es (one here a k (left_in (parts p a k) later h) own) (rest (right_in (parts p a k) later h))

  mutual
    within : (e : Expression) (k : Clock) → AreIn (parts p e k) → W (right_taken p e k)
    within (literal v) k h = tt
    within (variable x) k h = tt
    within (operate o es) k h = all_within Inside es (λ m. k) 0 (tail_in (at k (operate o es)) (all_parts p es (λ m. k) 0) h)
    within (pre a) k h = one Operand a k (tail_in (at k (pre a)) (parts p a k) h) (within a k)
    within (arrow a b) k h = first Inside a k (parts p b k) (taken p Inside b k) (tail_in (at k (arrow a b)) (parts p a k ++ parts p b k) h) (within a k) (λ l. one Inside b k l (within b k))
    within (when t a) k h = one Operand a (drop 1 k) (tail_in (at k (when t a)) (parts p a (drop 1 k)) h) (within a (drop 1 k))
    within (merge x bs) k h = all_within Inside bs (branch_clock x k) 0 (tail_in (at k (merge x bs)) (all_parts p bs (branch_clock x k) 0) h)
    within (call g c args) k h =
        let ks = formal_clock (node_at p g) args (base_of (node_at p g) k) in
        all_within Operand args ks 0 (tail_in (at k (call g c args)) (all_parts p args ks 0) h)

    all_within : (here : Position) (es : Operands) (ks : ℕ → Clock) (m : ℕ) → AreIn (all_parts p es ks m) → W (operands_taken p here es ks m)
    all_within here none ks m h = tt
    all_within here (more e es) ks m h = first here e (ks m) (all_parts p es ks (suc m)) (operands_taken p here es ks (suc m)) h (within e (ks m)) (all_within here es ks (suc m))

  equations_within : (f : Node) (qs : List Equation) → AreIn (equation_parts p f qs) → W (equations_taken p f qs)
  equations_within f [] h = tt
  equations_within f (q ∷ qs) h =
      let k = equation_clock f q in
      let others = equation_parts p f qs in
      each_append (IsWithin p all) (right_taken p q.right k) (equations_taken p f qs) (within q.right k (left_in (parts p q.right k) others h)) (equations_within f qs (right_in (parts p q.right k) others h))

append_nil : {X : Type 0} (xs : List X) → xs ≡ xs ++ []
append_nil [] = λ i. []
append_nil (x ∷ xs) = ap (λ l. x ∷ l) (append_nil xs)

pub taken_within : (p : Program) (f : Node) → Each (IsWithin p (node_parts p f)) (node_taken p f)
taken_within p f = equations_within p (node_parts p f) f f.equations ([], [], append_nil (node_parts p f))
