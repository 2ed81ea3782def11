-- Errors that are passed on.
use Rattle.std.proofs.Common.{◌≡◌, ◌∙◌, sym, Result}
use Rattle.std.specs.Result.{IfErr, IsErrAnd}
use Rattle.std.proofs.lemmas.Result.{err_from_is_err_and}
use Rattle.lus_lawful.specs.Errors.{BlamesIf}
use Rattle.lus_lawful.specs.declared.error.AuditError.{AuditError}

-- a line that is blamed where one thing holds is blamed where what follows from it does
pub blames_on : {T : Type 0} (P Q : Type 0) (r : Result T AuditError) (d : AuditError) → IsErrAnd r (λ e. e ≡ d) → BlamesIf P d → (P → Q)
    → IfErr r (BlamesIf Q)
blames_on P Q r d passed blames weaker =
    let e = err_from_is_err_and r passed in
    rw e.1 (λ n is. weaker (blames n (sym e.2 ∙ is)))
