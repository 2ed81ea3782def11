use Rattle.std.proofs.Common.{◌≡◌, ◌++◌, None, map, take, drop, length, replicate}
use Rattle.lus_values.specs.View.{entry_of}
use Rattle.lus_orders.specs.Classes.{begun}
use Rattle.lus_running.proofs.beginning.begin.Given as goal

abbrev pub invariant-loop-place : goal.invariant-loop-place
invariant-loop-place g l =
    let n = length l.initial.own in
    map g.T.Held.entry l.own ≡ take l.place (begun n (map entry_of l.inputs)) ++ drop l.place (replicate n None)
