-- What a fault tells, from what another tells.
use Rattle.std.proofs.Common.{◌≡◌, Result, Ok, Err}
use Rattle.std.specs.Result.{IsErrAnd, MatchResult}
use Rattle.std.proofs.lemmas.Result.{err_from_is_err_and}
use Rattle.lus_source.specs.declared.fault.Fault.{Fault}
use Rattle.lus_source.specs.declared.fault.Fault.TheVariants as faults
use Rattle.lus_source.specs.ScopeView.{Faulty}

pub faulty_by : {P Q : Type 0} → (P → Q) → (e : Fault) → Faulty P e → Faulty Q e
faulty_by f faults.Memory h = tt
faulty_by f (faults.At place cause) h = f h

-- what is passed on, whatever would hold of a value
pub passed_on : {T P Q : Type 0} (A : T → Type 0) → (P → Q) → (r : Result T Fault) (e : Fault) → IsErrAnd r (λ y. y ≡ e) → Faulty P e → MatchResult r A (Faulty Q)
passed_on A f r e same h = let p = err_from_is_err_and r same in rw (p.1, p.2) (faulty_by f e h)

-- what is given as it came
pub judged_by : {T A B P Q : Type 0} → (A → B) → (P → Q) → (r : Result T Fault) → MatchResult r (λ _. A) (Faulty P) → MatchResult r (λ _. B) (Faulty Q)
judged_by f g (Ok x) h = f h
judged_by f g (Err e) h = faulty_by g e h
