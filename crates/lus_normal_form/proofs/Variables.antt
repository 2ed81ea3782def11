-- Which variables an expression needs and the clocks of its parts test, where each part uses such variables alone.
use Rattle.std.proofs.Common.{ℕ, suc, drop}
use Rattle.lus_values.specs.Lists.{Each}
use Rattle.lus_program.specs.Programs.{Expression, literal, variable, operate, pre, arrow, when, merge, call, Operands, none, more, Program, node_at}
use Rattle.lus_streams.specs.Clocks.{Clock, Part, formal_clock, base_of, branch_clock, parts, all_parts}
use Rattle.lus_streams.specs.Order.{needs, needs_all}
use Rattle.lus_streams.proofs.Lists.{each_left, each_right, each_append}
pub use Rattle.lus_streams.proofs.Unique.{formal_variables}
use Rattle.lus_normal_form.specs.Named.{Uses}

-- what an expression needs is used by its parts
module _ (p : Program) (V : ℕ → Type 0) (C : (g c n : ℕ) → Type 0) where
  abbrev Used : Part → Type 0
  Used = Uses V C

  mutual
    pub needs_known : (e : Expression) (k : Clock) → Each Used (parts p e k) → Each V (needs e)
    needs_known (literal v) k u = tt
    needs_known (variable x) k u = (u.0.1, tt)
    needs_known (operate o es) k u = all_known es (λ m. k) 0 u.1
    needs_known (pre a) k u = tt
    needs_known (arrow a b) k u = each_append V (needs a) (needs b) (needs_known a k (each_left Used (parts p a k) (parts p b k) u.1)) (needs_known b k (each_right Used (parts p a k) (parts p b k) u.1))
    needs_known (when t a) k u = (u.0.1, needs_known a (drop 1 k) u.1)
    needs_known (merge x bs) k u = (u.0.1, all_known bs (branch_clock x k) 0 u.1)
    needs_known (call g c args) k u = all_known args (formal_clock (node_at p g) args (base_of (node_at p g) k)) 0 u.1

    pub all_known : (es : Operands) (ks : ℕ → Clock) (m : ℕ) → Each Used (all_parts p es ks m) → Each V (needs_all es)
    all_known none ks m u = tt
    all_known (more e es) ks m u =
        let rest = all_parts p es ks (suc m) in
        each_append V (needs e) (needs_all es) (needs_known e (ks m) (each_left Used (parts p e (ks m)) rest u)) (all_known es ks (suc m) (each_right Used (parts p e (ks m)) rest u))
