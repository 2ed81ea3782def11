-- Instants are counted, and where all are wanted those so far have no fault.
use Rattle.std.proofs.Common.{◌≡◌, false, drop}
use Rattle.lus_worlds.specs.Judging.{EachFaultless}
use Rattle.lus_worlds.proofs.judging.fault_among.Given as goal

abbrev pub invariant-loop-moment : goal.invariant-loop-moment
invariant-loop-moment l = record { number : l.number ≡ l.moment-index; none : l.is_cause ≡ false → EachFaultless (drop l.moment-index l.called) → EachFaultless l.called }
