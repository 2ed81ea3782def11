-- In the list of the parts of a text each part is followed by those in it.
use Rattle.std.proofs.Common.{ℕ, suc, List, [], ◌∷◌, ◌++◌, drop, refl, sym, subst, append_assoc}
use Rattle.lus_program.specs.Programs.{Expression, literal, variable, operate, pre, arrow, when, merge, call, Operands, none, more, Equation, Node, Program, node_at}
use Rattle.lus_streams.specs.Clocks.{Clock, Part, at, formal_clock, base_of, branch_clock, parts, all_parts}
use Rattle.lus_streams.specs.Equations.{equation_clock, equation_parts, node_parts}
use Rattle.lus_parts.specs.Nested.{AreNested}

module _ (p : Program) where
  mutual
    pub parts_nested : (e : Expression) (k : Clock) (rest : List Part) → AreNested p rest → AreNested p (parts p e k ++ rest)
    parts_nested (literal v) k rest h = ((rest, refl), h)
    parts_nested (variable x) k rest h = ((rest, refl), h)
    parts_nested (operate o es) k rest h = ((rest, refl), all_parts_nested es (λ m. k) 0 rest h)
    parts_nested (pre a) k rest h = ((rest, refl), parts_nested a k rest h)
    parts_nested (arrow a b) k rest h =
        ((rest, refl), subst (AreNested p) (sym (append_assoc (parts p a k) (parts p b k) rest)) (parts_nested a k (parts p b k ++ rest) (parts_nested b k rest h)))
    parts_nested (when t a) k rest h = ((rest, refl), parts_nested a (drop 1 k) rest h)
    parts_nested (merge x bs) k rest h = ((rest, refl), all_parts_nested bs (branch_clock x k) 0 rest h)
    parts_nested (call g c args) k rest h = ((rest, refl), all_parts_nested args (formal_clock (node_at p g) args (base_of (node_at p g) k)) 0 rest h)

    pub all_parts_nested : (es : Operands) (ks : ℕ → Clock) (m : ℕ) (rest : List Part) → AreNested p rest → AreNested p (all_parts p es ks m ++ rest)
    all_parts_nested none ks m rest h = h
    all_parts_nested (more e es) ks m rest h =
        let others = all_parts p es ks (suc m) in
        subst (AreNested p) (sym (append_assoc (parts p e (ks m)) others rest)) (parts_nested e (ks m) (others ++ rest) (all_parts_nested es ks (suc m) rest h))

  equations_nested : (f : Node) (qs : List Equation) → AreNested p (equation_parts p f qs)
  equations_nested f [] = tt
  equations_nested f (q ∷ qs) = parts_nested q.right (equation_clock f q) (equation_parts p f qs) (equations_nested f qs)

  pub node_nested : (f : Node) → AreNested p (node_parts p f)
  node_nested f = equations_nested f f.equations
