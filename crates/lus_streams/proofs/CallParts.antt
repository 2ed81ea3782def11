-- Where each call in an expression is of a node with an output, so is each part of it.
use Rattle.std.proofs.Common.{ℕ, suc, ◌<◌, drop}
use Rattle.lus_values.specs.Lists.{Each}
use Rattle.lus_values.proofs.Lists.{each_append}
use Rattle.lus_program.specs.Programs.{Expression, literal, variable, operate, pre, arrow, when, merge, call, Operands, none, more, Program, node_at}
use Rattle.lus_streams.specs.Clocks.{Clock, formal_clock, base_of, branch_clock, parts, all_parts}
use Rattle.lus_streams.specs.Flags.{HasOutput}
use Rattle.lus_program.proofs.Calls.{EachCall, EachCallIn}

module _ (p : Program) where
  abbrev pub HasSome : ℕ → Type 0
  HasSome g = 0 < (node_at p g).outputs

  mutual
    pub parts_have : (e : Expression) (k : Clock) → EachCall HasSome e → Each (HasOutput p) (parts p e k)
    parts_have (literal v) k h = (tt, tt)
    parts_have (variable x) k h = (tt, tt)
    parts_have (operate o es) k h = (tt, all_have es (λ m. k) 0 h)
    parts_have (pre a) k h = (tt, parts_have a k h)
    parts_have (arrow a b) k h = (tt, each_append (HasOutput p) (parts p a k) (parts p b k) (parts_have a k h.0) (parts_have b k h.1))
    parts_have (when t a) k h = (tt, parts_have a (drop 1 k) h)
    parts_have (merge x bs) k h = (tt, all_have bs (branch_clock x k) 0 h)
    parts_have (call g c args) k h = (h.0, all_have args (formal_clock (node_at p g) args (base_of (node_at p g) k)) 0 h.1)

    all_have : (es : Operands) (ks : ℕ → Clock) (m : ℕ) → EachCallIn HasSome es → Each (HasOutput p) (all_parts p es ks m)
    all_have none ks m h = tt
    all_have (more e es) ks m h = each_append (HasOutput p) (parts p e (ks m)) (all_parts p es ks (suc m)) (parts_have e (ks m) h.0) (all_have es ks (suc m) h.1)
