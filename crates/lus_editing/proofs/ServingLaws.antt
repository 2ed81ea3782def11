-- What is said to messages, by what they are.
use Rattle.std.proofs.Common.{Result, Ok, Err, IfOk}

pub nothing_owed : {T E : Type 0} (r : Result T E) → IfOk r (λ _. Unit {0})
nothing_owed (Ok x) = tt
nothing_owed (Err e) = tt

pub nothing_given : {T E F : Type 0} (r : Result (Result T E) F) → IfOk r (λ r. IfOk r (λ _. Unit {0}))
nothing_given (Ok r) = nothing_owed r
nothing_given (Err e) = tt
