-- Numbers of calls change no literal.
use Rattle.std.proofs.Common.{ℕ, suc, ◌+◌}
use Rattle.lus_values.specs.Values.{Value}
use Rattle.lus_program.specs.Programs.{Expression, operate, pre, arrow, when, merge, call, Operands, none, more, calls, numbered, all_numbered}
use Rattle.lus_program.specs.Literals.{LiteralsAre, AllLiteralsAre}

module _ (Q : Value → Type 0) where
  mutual
    pub literals-numbered : (e : Expression) (n : ℕ) → LiteralsAre Q e → LiteralsAre Q (numbered n e)
    literals-numbered (operate o es) n h = all_literals-numbered es n h
    literals-numbered (pre a) n h = literals-numbered a n h
    literals-numbered (arrow a b) n h = (literals-numbered a n h.0, literals-numbered b (n + calls a) h.1)
    literals-numbered (when t a) n h = literals-numbered a n h
    literals-numbered (merge x bs) n h = all_literals-numbered bs n h
    literals-numbered (call g c es) n h = all_literals-numbered es (suc n) h
    literals-numbered e n h = h

    all_literals-numbered : (es : Operands) (n : ℕ) → AllLiteralsAre Q es → AllLiteralsAre Q (all_numbered n es)
    all_literals-numbered none n h = tt
    all_literals-numbered (more e es) n h = (literals-numbered e n h.0, all_literals-numbered es (n + calls e) h.1)

  mutual
    pub literals-unnumbered : (e : Expression) (n : ℕ) → LiteralsAre Q (numbered n e) → LiteralsAre Q e
    literals-unnumbered (operate o es) n h = all_literals-unnumbered es n h
    literals-unnumbered (pre a) n h = literals-unnumbered a n h
    literals-unnumbered (arrow a b) n h = (literals-unnumbered a n h.0, literals-unnumbered b (n + calls a) h.1)
    literals-unnumbered (when t a) n h = literals-unnumbered a n h
    literals-unnumbered (merge x bs) n h = all_literals-unnumbered bs n h
    literals-unnumbered (call g c es) n h = all_literals-unnumbered es (suc n) h
    literals-unnumbered e n h = h

    all_literals-unnumbered : (es : Operands) (n : ℕ) → AllLiteralsAre Q (all_numbered n es) → AllLiteralsAre Q es
    all_literals-unnumbered none n h = tt
    all_literals-unnumbered (more e es) n h = (literals-unnumbered e n h.0, all_literals-unnumbered es (n + calls e) h.1)
