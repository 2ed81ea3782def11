-- A fault that is found is told, and where none is that is told.
use Rattle.std.proofs.Common.{inl, inr}
use Rattle.std.proofs.lemmas.Result.{on_ok_weaker}
use Rattle.lus_windows.proofs.reasons.push_rows.Goals as goal

pub returns-in-Some : goal.returns-in-Some
returns-in-Some c =
    let g = c.in-Some.found in
    let faults = rw c.in-Some.is at c.in_ok-found.ensures in
    on_ok_weaker c.push_found.result (λ says sure l ready k. inl (record { row = g.row; fault = g.fault; faults = faults sure l ready k; says = says })) c.push_found.ensures

pub returns-in_ok-push_str-in-None : goal.returns-in_ok-push_str-in-None
returns-in_ok-push_str-in-None c =
    let none = rw c.in-None.is at c.in_ok-found.ensures in
    λ sure l ready k. inr (c.in_ok-push_str-in-None.ensures.bytes, none sure l ready k)
