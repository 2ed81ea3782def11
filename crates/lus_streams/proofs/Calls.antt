-- Facts of each part of a text, and of each call in it.
use Rattle.std.proofs.Common.{ℕ, suc, List, [], ◌∷◌, drop}
use Rattle.lus_program.specs.Programs.{Expression, literal, variable, operate, pre, arrow, when, merge, call, Operands, none, more, Equation, Node, Program, node_at}
use Rattle.lus_values.specs.Lists.{Each}
use Rattle.lus_streams.specs.Clocks.{Clock, Part, at, formal_clock, base_of, branch_clock, parts, all_parts}
use Rattle.lus_streams.specs.Equations.{equation_clock, equation_parts, Site, sites_in}
use Rattle.lus_streams.proofs.Lists.{each_left, each_right, each_append}

-- what holds of each part of an expression, where it holds of an expression whose parts all meet S
module _ (p : Program) (S R : Part → Type 0) (step : (e : Expression) (k : Clock) → Each S (parts p e k) → R (at k e)) where
  mutual
    pub each_part : (e : Expression) (k : Clock) → Each S (parts p e k) → Each R (parts p e k)
    each_part (literal v) k h = (step (literal v) k h, tt)
    each_part (variable x) k h = (step (variable x) k h, tt)
    each_part (operate o es) k h = (step (operate o es) k h, all_each_part es (λ m. k) 0 h.1)
    each_part (pre a) k h = (step (pre a) k h, each_part a k h.1)
    each_part (arrow a b) k h = (step (arrow a b) k h, each_append R (parts p a k) (parts p b k) (each_part a k (each_left S (parts p a k) (parts p b k) h.1)) (each_part b k (each_right S (parts p a k) (parts p b k) h.1)))
    each_part (when t a) k h = (step (when t a) k h, each_part a (drop 1 k) h.1)
    each_part (merge x bs) k h = (step (merge x bs) k h, all_each_part bs (branch_clock x k) 0 h.1)
    each_part (call g c args) k h = (step (call g c args) k h, all_each_part args (formal_clock (node_at p g) args (base_of (node_at p g) k)) 0 h.1)

    all_each_part : (es : Operands) (ks : ℕ → Clock) (m : ℕ) → Each S (all_parts p es ks m) → Each R (all_parts p es ks m)
    all_each_part none ks m h = tt
    all_each_part (more e es) ks m h =
        let rest = all_parts p es ks (suc m) in
        each_append R (parts p e (ks m)) rest (each_part e (ks m) (each_left S (parts p e (ks m)) rest h)) (all_each_part es ks (suc m) (each_right S (parts p e (ks m)) rest h))

  pub each_equation_part : (f : Node) (qs : List Equation) → Each S (equation_parts p f qs) → Each R (equation_parts p f qs)
  each_equation_part f [] h = tt
  each_equation_part f (q ∷ qs) h =
      let first = parts p q.right (equation_clock f q) in
      each_append R first (equation_parts p f qs) (each_part q.right (equation_clock f q) (each_left S first (equation_parts p f qs) h)) (each_equation_part f qs (each_right S first (equation_parts p f qs) h))

-- what R says of a call
abbrev pub OfCall : ((g c : ℕ) → Operands → Clock → Type 0) → Part → Type 0
OfCall R (at k (call g c args)) = R g c args k
OfCall R _ = Unit {0}

-- a fact of each call in the text, from a fact of each part and a step from a call's arguments
module _ (p : Program) (S : Part → Type 0) (R : (g c : ℕ) → Operands → Clock → Type 0)
    (step : (g c : ℕ) (args : Operands) (k : Clock) → S (at k (call g c args)) → Each S (all_parts p args (formal_clock (node_at p g) args (base_of (node_at p g) k)) 0) → R g c args k) where
  call_step : (e : Expression) (k : Clock) → Each S (parts p e k) → OfCall R (at k e)
  call_step (call g c args) k h = step g c args k h.0 h.1
  call_step _ k h = tt

  pub equation_calls : (f : Node) (qs : List Equation) → Each S (equation_parts p f qs) → Each (OfCall R) (equation_parts p f qs)
  equation_calls f qs h = each_equation_part p S (OfCall R) call_step f qs h

-- from the calls of the parts to the list of the calls, and back
abbrev pub OfSite : Program → ((g c : ℕ) → Operands → (base : Clock) → Type 0) → Site → Type 0
OfSite p R s = R s.node s.number s.args s.base

module _ (p : Program) (R : (g c : ℕ) → Operands → Clock → Type 0) where
  abbrev pub AtBase : (g c : ℕ) → Operands → Clock → Type 0
  AtBase g c args k = R g c args (base_of (node_at p g) k)

  pub sites_of_parts : (es : List Part) → Each (OfCall AtBase) es → Each (OfSite p R) (sites_in p es)
  sites_of_parts [] h = tt
  sites_of_parts (at k (call g c args) ∷ es) h = (h.0, sites_of_parts es h.1)
  sites_of_parts (at k _ ∷ es) h = sites_of_parts es h.1

  pub parts_of_sites : (es : List Part) → Each (OfSite p R) (sites_in p es) → Each (OfCall AtBase) es
  parts_of_sites [] h = tt
  parts_of_sites (at k (call g c args) ∷ es) h = (h.0, parts_of_sites es h.1)
  parts_of_sites (at k _ ∷ es) h = (tt, parts_of_sites es h)
