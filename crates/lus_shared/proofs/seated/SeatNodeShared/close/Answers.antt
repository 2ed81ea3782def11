-- What closes seats gathers them.
use Rattle.std.proofs.Common.{Result, Ok, Err, IfOk}
use Rattle.lus_shared.proofs.seated.SeatNodeShared.close.Goals as goal

on_ok : {T E : Type 0} (r : Result T E) (P Q : T → Type 0) → ((x : T) → P x → Q x) → IfOk r P → IfOk r Q
on_ok (Ok x) P Q step p = step x p
on_ok (Err e) P Q step p = tt

pub returns-clause-ok : goal.returns-clause-ok
returns-clause-ok c = on_ok c.close.result _ _
    (λ j closed. record {
      program = _;
      node = _;
      legal = closed.legal;
      all = record { once = closed.all.once; no_other = closed.all.no_other };
      counted = closed.shares;
    })
    c.close.ensures.ok
