use Rattle.std.proofs.Common.{◌≡◌, ◌+◌, length, map, sum_by, take}
use Rattle.lus_source.proofs.counts.names_left.Given as goal

abbrev pub invariant-loop-thing : goal.invariant-loop-thing
invariant-loop-thing g l = l.left + sum_by length (map g.T.Naming.named (take l.thing-index l.things)) ≡ l.most
