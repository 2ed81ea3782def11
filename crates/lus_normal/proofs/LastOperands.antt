-- The type of the last operand.
use Rattle.std.proofs.Common.{arith, ◌≡◌, ap, refl, ℕ, zero, suc, List, [], ◌∷◌, Some, length}
use Rattle.std.specs.Prelude.{slice_get}
use Rattle.lus_program.specs.declared.expr.Expr.{Expr}
use Rattle.lus_program.specs.declared.types.Kind.{Kind}
use Rattle.lus_program.specs.Programs.{Node, Program}
use Rattle.lus_program.specs.View.{expression_of, operands_of}
use Rattle.lus_program.specs.Given.{given, last_given}

module _ (p : Program) (f : Node) where
  pub no_last : (k : Kind) (es : List Expr) → length es ≡ 0 → last_given p f k (operands_of es) ≡ k
  no_last k [] none = refl
  no_last k (e ∷ es) none = absurd (omega (arith, none))

  pub some_last : (k : Kind) (es : List Expr) (n : ℕ) (e : Expr) → length es ≡ suc n → slice_get es n ≡ Some e → last_given p f k (operands_of es) ≡ given p f (expression_of e)
  some_last k [] n e size here = absurd (omega (arith, size))
  some_last k (d ∷ []) zero e size here = let is : d ≡ e = cc in ap (λ x. given p f (expression_of x)) is
  some_last k (d ∷ []) (suc n) e size here = absurd (omega (arith, size))
  some_last k (d ∷ b ∷ es) zero e size here = absurd (omega (arith, size))
  some_last k (d ∷ b ∷ es) (suc n) e size here = some_last (given p f (expression_of d)) (b ∷ es) n e (omega (arith, size)) here
