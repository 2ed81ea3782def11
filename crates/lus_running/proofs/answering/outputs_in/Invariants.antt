use Rattle.std.proofs.Common.{◌≡◌, map, take, drop}
use Rattle.lus_values.specs.View.{entry_of}
use Rattle.lus_running.proofs.answering.outputs_in.Given as goal

abbrev pub invariant-loop-variable : goal.invariant-loop-variable
invariant-loop-variable g l = map entry_of l.found.items ≡ drop l.from (take l.variable (map g.T.Held.entry l.row))
