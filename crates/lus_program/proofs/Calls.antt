-- What holds of each node that an expression calls.
use Rattle.std.proofs.Common.{ℕ}
use Rattle.lus_program.specs.Programs.{Expression, literal, variable, operate, pre, arrow, when, merge, call, Operands, none, more}

module _ (P : ℕ → Type 0) where
  abbrev mutual
    pub EachCall : Expression → Type 0
    EachCall (literal v) = Unit {0}
    EachCall (variable x) = Unit {0}
    EachCall (operate o es) = EachCallIn es
    EachCall (pre a) = EachCall a
    EachCall (arrow a b) = EachCall a × EachCall b
    EachCall (when t a) = EachCall a
    EachCall (merge x bs) = EachCallIn bs
    EachCall (call g c es) = P g × EachCallIn es

    pub EachCallIn : Operands → Type 0
    EachCallIn none = Unit {0}
    EachCallIn (more e es) = EachCall e × EachCallIn es
