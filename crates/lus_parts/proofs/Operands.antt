-- Arguments by their places, and clocks of formals, whatever the calls in the arguments are numbered.
use Rattle.std.proofs.Common.{◌≡◌, ℕ, zero, suc, ◌+◌, ◌<◌, ◌≤◌, List, [], ◌∷◌, ◌++◌, length, refl, sym, ap, ◌∙◌, le_of_suc-le-suc, not-suc-le-zero}
use Rattle.lus_values.specs.Lists.{item}
use Rattle.lus_values.specs.Values.{nil}
use Rattle.lus_program.specs.declared.expr.Expr.{Expr}
use Rattle.lus_program.specs.Programs.{Expression, literal, variable, Operands, none, more, calls, numbered, all_numbered, Node}
use Rattle.lus_program.specs.View.{expression_of, operands_of}
use Rattle.lus_streams.specs.Clocks.{Clock, clock_of, operand, renamed_test, renamed_clock, formal_clock}

pub operand_at : (d : Expr) (es : List Expr) (i : ℕ) → i < length es → operand (operands_of es) i ≡ expression_of (item d es i)
operand_at d [] i lt = elim (not-suc-le-zero lt) [ ]
operand_at d (e ∷ es) zero lt = refl
operand_at d (e ∷ es) (suc i) lt = operand_at d es i (le_of_suc-le-suc lt)

pub operand_past : (es : List Expr) (i : ℕ) → length es ≤ i → operand (operands_of es) i ≡ literal nil
operand_past [] i le = refl
operand_past (e ∷ es) zero le = elim (not-suc-le-zero le) [ ]
operand_past (e ∷ es) (suc i) le = operand_past es i (le_of_suc-le-suc le)

test_numbered : (e : Expression) (n c : ℕ) (k : Clock) → renamed_test (numbered n e) c k ≡ renamed_test e c k
test_numbered (variable x) n c k = refl
test_numbered e n c k = refl

test_at_numbered : (es : Operands) (n m c : ℕ) (k : Clock) → renamed_test (operand (all_numbered n es) m) c k ≡ renamed_test (operand es m) c k
test_at_numbered none n m c k = refl
test_at_numbered (more e es) n zero c k = test_numbered e n c k
test_at_numbered (more e es) n (suc m) c k = test_at_numbered es (n + calls e) m c k

renamed_numbered : (es : Operands) (n : ℕ) (k : Clock) → renamed_clock (all_numbered n es) k ≡ renamed_clock es k
renamed_numbered es n [] = refl
renamed_numbered es n (t ∷ k) =
    test_at_numbered es n t.variable t.constructor (renamed_clock (all_numbered n es) k) ∙ ap (renamed_test (operand es t.variable) t.constructor) (renamed_numbered es n k)

pub formal_numbered : (g : Node) (es : Operands) (n : ℕ) (base : Clock) → formal_clock g es base ≡ formal_clock g (all_numbered n es) base
formal_numbered g es n base = λ i m. sym (renamed_numbered es n (clock_of g m)) i ++ base
