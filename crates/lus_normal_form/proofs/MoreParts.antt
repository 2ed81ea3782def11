-- More new variables leave a normal form one.
use Rattle.std.proofs.Common.{ℕ, suc, Bool, true, false, drop}
use Rattle.lus_program.specs.Programs.{Expression, literal, variable, operate, pre, arrow, when, merge, call, Operands, none, more, Program, node_at}
use Rattle.lus_streams.specs.Clocks.{Clock, formal_clock, base_of, branch_clock}
use Rattle.lus_normal_form.specs.Forms.{Position, Inside, Operand, is_taken}
use Rattle.lus_normal_form.specs.NormalForm.{Stands, IsRight, AreNormal}

module _ (p : Program) (Old New : ℕ → Clock → Expression → Type 0) (to : (y : ℕ) (k : Clock) (a : Expression) → Old y k a → New y k a) where
  one : (b : Bool) (a a' : Expression) (k : Clock) → (IsRight p Old a a' k → IsRight p New a a' k) → Stands p Old b a a' k (IsRight p Old a a' k) → Stands p New b a a' k (IsRight p New a a' k)
  one true a a' k later h = (h.0, h.1, to h.0 k a h.2)
  one false a a' k later h = later h

  mutual
    pub right_later : (e e' : Expression) (k : Clock) → IsRight p Old e e' k → IsRight p New e e' k
    right_later (literal v) e' k h = h
    right_later (variable x) e' k h = h
    right_later (operate o es) e' k h = (h.0, h.1, all_later Inside es h.0 (λ m. k) 0 h.2)
    right_later (pre a) e' k h = (h.0, h.1, one (is_taken Operand a) a h.0 k (right_later a h.0 k) h.2)
    right_later (arrow a b) e' k h = (h.0, h.1, h.2, one (is_taken Inside a) a h.0 k (right_later a h.0 k) h.3, one (is_taken Inside b) b h.1 k (right_later b h.1 k) h.4)
    right_later (when t a) e' k h = (h.0, h.1, one (is_taken Operand a) a h.0 (drop 1 k) (right_later a h.0 (drop 1 k)) h.2)
    right_later (merge x bs) e' k h = (h.0, h.1, all_later Inside bs h.0 (branch_clock x k) 0 h.2)
    right_later (call g c args) e' k h = (h.0, h.1, (h.2.0, all_later Operand args h.0 (formal_clock (node_at p g) args (base_of (node_at p g) k)) 0 h.2.1))

    all_later : (here : Position) (es es' : Operands) (ks : ℕ → Clock) (m : ℕ) → AreNormal p Old here es es' ks m → AreNormal p New here es es' ks m
    all_later here none es' ks m h = h
    all_later here (more e es) es' ks m h = (h.0, h.1, h.2, one (is_taken here e) e h.0 (ks m) (right_later e h.0 (ks m)) h.3, all_later here es h.1 ks (suc m) h.4)
