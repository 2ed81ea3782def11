use Rattle.std.proofs.Common.{◌≡◌, ◌++◌, None, map, take, drop, length, replicate}
use Rattle.lus_orders.proofs.emptying.empty.Given as goal

abbrev pub invariant-loop-place : goal.invariant-loop-place
invariant-loop-place g l =
    let entry = g.T.Held.entry in
    map entry l.places ≡ take l.place (replicate (length l.initial.places) None) ++ drop l.place (map entry l.initial.places)
