-- Literals of a program whose constructors are declared are declared constructors where they stand among the parts of its text.
use Rattle.std.proofs.Common.{ℕ, suc, List, [], ◌∷◌}
use Rattle.lus_values.specs.Lists.{Each}
use Rattle.lus_values.specs.Values.{Value, bool, int, enum, struct, nil}
use Rattle.lus_values.proofs.Lists.{each_append}
use Rattle.lus_program.specs.Literals.{LiteralsAre, AllLiteralsAre, declares, IsDeclared, HasDeclaredLiterals}
use Rattle.lus_program.specs.Programs.{Expression, literal, variable, operate, pre, arrow, when, merge, call, Operands, none, more, Equation, Node, Program, node_at}
use Rattle.lus_streams.specs.Clocks.{Clock, at, formal_clock, base_of, branch_clock, parts, all_parts}
use Rattle.lus_streams.specs.Equations.{equation_clock, equation_parts, node_parts}
use Rattle.lus_streams.proofs.Lists.{each_implies}
use Rattle.lus_typed_streams.specs.Laws.{IsLiteralOf, HasLiteralsOf}

module _ (p : Program) where
  literal_part : (v : Value) (k : Clock) → IsDeclared p v → IsLiteralOf (declares p) (at k (literal v))
  literal_part (enum t c) k h = h
  literal_part (bool b) k h = tt
  literal_part (int z) k h = tt
  literal_part (struct fs) k h = tt
  literal_part nil k h = tt

  mutual
    part_literals : (e : Expression) (k : Clock) → LiteralsAre (IsDeclared p) e → Each (IsLiteralOf (declares p)) (parts p e k)
    part_literals (literal v) k h = (literal_part v k h, tt)
    part_literals (variable x) k h = (tt, tt)
    part_literals (operate o es) k h = (tt, all_literals es (λ m. k) 0 h)
    part_literals (pre a) k h = (tt, part_literals a k h)
    part_literals (arrow a b) k h = (tt, each_append (IsLiteralOf (declares p)) (parts p a k) (parts p b k) (part_literals a k h.0) (part_literals b k h.1))
    part_literals (when t a) k h = (tt, part_literals a _ h)
    part_literals (merge x bs) k h = (tt, all_literals bs (branch_clock x k) 0 h)
    part_literals (call g c args) k h = (tt, all_literals args (formal_clock (node_at p g) args (base_of (node_at p g) k)) 0 h)

    all_literals : (es : Operands) (ks : ℕ → Clock) (m : ℕ) → AllLiteralsAre (IsDeclared p) es → Each (IsLiteralOf (declares p)) (all_parts p es ks m)
    all_literals none ks m h = tt
    all_literals (more e es) ks m h =
        each_append (IsLiteralOf (declares p)) (parts p e (ks m)) (all_parts p es ks (suc m)) (part_literals e (ks m) h.0) (all_literals es ks (suc m) h.1)

  equations_literals : (f : Node) (qs : List Equation) → Each (λ q. LiteralsAre (IsDeclared p) q.right) qs → Each (IsLiteralOf (declares p)) (equation_parts p f qs)
  equations_literals f [] h = tt
  equations_literals f (q ∷ qs) h =
      each_append (IsLiteralOf (declares p)) (parts p q.right (equation_clock f q)) (equation_parts p f qs) (part_literals q.right (equation_clock f q) h.0) (equations_literals f qs h.1)

  pub declared_literals : HasDeclaredLiterals p → HasLiteralsOf p (declares p)
  declared_literals = each_implies (λ f. Each (λ q. LiteralsAre (IsDeclared p) q.right) f.equations) (λ f. Each (IsLiteralOf (declares p)) (node_parts p f)) (λ f h. equations_literals f f.equations h) p.nodes
