-- What the variables of a normal form need are its variables.
use Rattle.std.proofs.Common.{◌≡◌, sym, subst, ℕ, suc, ◌<◌, ◌≤◌, Bool, true, false, List, [], ◌∷◌, ◌++◌, drop, length, Option, Some, None, arith, ⊎_elim}
use Rattle.std.proofs.lemmas.Bool.{cases_lt}
use Rattle.lus_values.specs.Lists.{Each}
use Rattle.lus_values.proofs.Lists.{below_all}
use Rattle.lus_program.specs.Programs.{Expression, literal, variable, operate, pre, arrow, when, merge, call, Operands, none, more, Node, Program, node_at}
use Rattle.lus_streams.specs.Clocks.{Clock, clock_of, Part, formal_clock, base_of, branch_clock, parts, all_parts}
use Rattle.lus_streams.specs.Equations.{Definition, given_by, definition_of, node_parts}
use Rattle.lus_streams.specs.Order.{needs, needs_all, needs_right, needed, clock_variables}
use Rattle.lus_streams.proofs.Lists.{each_append, each_implies, each_left, each_right, below_at}
use Rattle.lus_streams.proofs.Definitions.{RightParts, right_parts}
use Rattle.lus_normal_form.specs.Forms.{Position, Inside, Operand, is_taken}
use Rattle.lus_normal_form.specs.NormalForm.{StandsFor, Stands, IsRight, AreNormal}
use Rattle.lus_normal_form.specs.NormalNodes.{DefinesNew, IsDefinition, IsNormalNode, IsWithin}
use Rattle.lus_normal_form.specs.Named.{GivesOutput, IsNamed, Known, Uses}
use Rattle.lus_normal_form.proofs.Equations.{each_within}
use Rattle.lus_normal_form.proofs.Faults.{first_part}
use Rattle.lus_normal_form.proofs.NewParts.{new_at, new_fact, new_part, stands_before}
use Rattle.lus_normal_form.specs.Needs.{NormalNeedsVariables}

module _ (p : Program) (f : Node) (u : ℕ) (New : ℕ → Clock → Expression → Type 0) (old : (x : ℕ) → Known f x → x < u) (new : (y : ℕ) (k : Clock) (a : Expression) → New y k a → y < u) where
  abbrev B : List ℕ → Type 0
  B = Each (λ y. y < u)

  abbrev U : Part → Type 0
  U = Uses (Known f) (GivesOutput p f)

  abbrev Us : List Part → Type 0
  Us = Each U

  abbrev left_of : (xs ys : List Part) → Us (xs ++ ys) → Us xs
  left_of = each_left U

  abbrev right_of : (xs ys : List Part) → Us (xs ++ ys) → Us ys
  right_of = each_right U

  one : (b : Bool) (a a' : Expression) (k : Clock) → (IsRight p New a a' k → B (needs a')) → Stands p New b a a' k (IsRight p New a a' k) → B (needs a')
  one true a a' k rest is = subst (λ z. B (needs z)) (sym is.1) (new is.0 k a is.2, tt)
  one false a a' k rest is = rest is

  mutual
    right_needs : (e e' : Expression) (k : Clock) → Us (parts p e k) → IsRight p New e e' k → B (needs e')
    right_needs (literal v) e' k h is = subst (λ z. B (needs z)) (sym is) tt
    right_needs (variable x) e' k h is = subst (λ z. B (needs z)) (sym is) (old x h.0.1, tt)
    right_needs (operate o es) e' k h is = subst (λ z. B (needs z)) (sym is.1) (all_needs Inside es is.0 (λ m. k) 0 h.1 is.2)
    right_needs (pre a) e' k h is = subst (λ z. B (needs z)) (sym is.1) tt
    right_needs (arrow a b) e' k h is =
        subst (λ z. B (needs z)) (sym is.2)
        (each_append (λ y. y < u) (needs is.0) (needs is.1)
        (one (is_taken Inside a) a is.0 k (right_needs a is.0 k (left_of (parts p a k) (parts p b k) h.1)) is.3)
        (one (is_taken Inside b) b is.1 k (right_needs b is.1 k (right_of (parts p a k) (parts p b k) h.1)) is.4))
    right_needs (when t a) e' k h is = subst (λ z. B (needs z)) (sym is.1) (old t.variable h.0.1, one (is_taken Operand a) a is.0 (drop 1 k) (right_needs a is.0 (drop 1 k) h.1) is.2)
    right_needs (merge x bs) e' k h is = subst (λ z. B (needs z)) (sym is.1) (old x h.0.1, all_needs Inside bs is.0 (branch_clock x k) 0 h.1 is.2)
    right_needs (call g c args) e' k h is = subst (λ z. B (needs z)) (sym is.1) (all_needs Operand args is.0 (formal_clock (node_at p g) args (base_of (node_at p g) k)) 0 h.1 is.2.1)

    pub all_needs : (here : Position) (es es' : Operands) (ks : ℕ → Clock) (m : ℕ) → Us (all_parts p es ks m) → AreNormal p New here es es' ks m → B (needs_all es')
    all_needs here none es' ks m h is = subst (λ z. B (needs_all z)) (sym is) tt
    all_needs here (more e es) es' ks m h is =
        let rest = all_parts p es ks (suc m) in
        subst (λ z. B (needs_all z)) (sym is.2)
        (each_append (λ y. y < u) (needs is.0) (needs_all is.1)
        (one (is_taken here e) e is.0 (ks m) (right_needs e is.0 (ks m) (left_of (parts p e (ks m)) rest h)) is.3)
        (all_needs here es is.1 ks (suc m) (right_of (parts p e (ks m)) rest h) is.4))

  definition_needs : (d d' : Option Definition) → RightParts p U d → IsDefinition p New d d' → B (needs_right d')
  definition_needs None d' h is = subst (λ z. B (needs_right z)) (sym is) tt
  definition_needs (Some (given_by e n xs k)) d' h is = subst (λ z. B (needs_right z)) (sym is.1) (right_needs e is.0 k h is.2)

module _ (p p' : Program) (f f' : Node) (new_parts : List Part) (named : IsNamed p f) (normal : IsNormalNode p p' f f' new_parts) where
  abbrev w : ℕ
  w = length f.variables

  abbrev u : ℕ
  u = length f'.variables

  abbrev New : ℕ → Clock → Expression → Type 0
  New = StandsFor w new_parts

  old_below : (x : ℕ) → Known f x → x < u
  old_below x lt = let size = normal.width in omega (arith, lt, size)

  new_below : (y : ℕ) (k : Clock) (a : Expression) → New y k a → y < u
  new_below y k a s = let lt = stands_before w new_parts y k a s in let size = normal.width in omega (arith, lt, size)

  abbrev Below : List ℕ → Type 0
  Below = Each (λ y. y < u)

  known_below : (xs : List ℕ) → Each (Known f) xs → Below xs
  known_below xs h = each_implies (Known f) (λ y. y < u) old_below xs h

  old_needs : (x : ℕ) → x < w → Below (needed f' x)
  old_needs x lt =
      let clock : clock_of f' x ≡ clock_of f x = below_at (λ x. clock_of f' x ≡ clock_of f x) w normal.clocks x lt in
      let known = below_at (λ x. Each (Known f) (clock_variables (clock_of f x))) w named.clocks x lt in
      let is = below_at (λ x. IsDefinition p New (definition_of f x) (definition_of f' x)) w normal.definitions x lt in
      each_append (λ y. y < u) (clock_variables (clock_of f' x)) (needs_right (definition_of f' x))
      (subst (λ k. Below (clock_variables k)) (sym clock) (known_below (clock_variables (clock_of f x)) known))
      (definition_needs p f u New old_below new_below (definition_of f x) (definition_of f' x) (right_parts p (Uses (Known f) (GivesOutput p f)) f f.equations x named.uses) is)

  new_needs : (x : ℕ) → w ≤ x → x < u → Below (needed f' x)
  new_needs x le lt =
      let size = normal.width in
      let found = new_at w new_parts x le (omega (arith, lt, size)) in
      let k = found.0 in
      let a = found.1 in
      let is = new_fact (DefinesNew p f' New) w new_parts normal.new_definitions x k a found.2 in
      let uses = each_within p (Uses (Known f) (GivesOutput p f)) (node_parts p f) k a (new_part (IsWithin p (node_parts p f)) w new_parts normal.within x k a found.2) named.uses in
      let own = first_part p (Uses (Known f) (GivesOutput p f)) a k uses in
      each_append (λ y. y < u) (clock_variables (clock_of f' x)) (needs_right (definition_of f' x))
      (subst (λ l. Below (clock_variables l)) (sym is.0) (known_below (clock_variables k) own.0))
      (definition_needs p f u New old_below new_below (Some (given_by a 0 (x ∷ []) k)) (definition_of f' x) uses is.1)

  pub all_need : (x : ℕ) → x < u → Below (needed f' x)
  all_need x lt = ⊎_elim (λ low. old_needs x low) (λ high. new_needs x high lt) (cases_lt x w)

pub normal_needs_variables : NormalNeedsVariables
normal_needs_variables p p' new_parts named normal g =
    let f' = node_at p' g in
    below_all (λ x. Each (λ y. y < length f'.variables) (needed f' x)) (length f'.variables) (all_need p p' (node_at p g) f' (new_parts g) (named g) (normal g))
