-- What follows of an answer from what its clauses say of it.
use Rattle.std.proofs.Common.{Result, Ok, Err, IfOk, OnOk}

pub with_other : {X E : Type 0} (r : Result X E) (P R : X → Type 0) (S : Type 0) → IfOk r P → OnOk r S → ((x : X) → P x → S → R x) → IfOk r R
with_other (Ok x) P R S p s f = f x p s
with_other (Err e) P R S p s f = tt
